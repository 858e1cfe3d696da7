-- The running tally.
--     Tally   what a visit makes of it
pub mod Tally
