-- One visit with the running tally.
--     Visited   a visit, and the tally that took it in
pub mod Visited
