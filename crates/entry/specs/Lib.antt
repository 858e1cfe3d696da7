-- A record with its kind.
--     Kinds   the kinds, and their numbers
--     Entry   how a record with its kind is written, and what reading it gives
--     Told    where the parts of a record lie
pub mod Kinds
pub mod Entry
pub mod Told
