-- A record behind an end.
--     Placing   the faults of a station, and the least one allowed
pub mod Placing
