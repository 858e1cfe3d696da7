-- A new record.
--     Keyed   a new record and its faults
pub mod Keyed
