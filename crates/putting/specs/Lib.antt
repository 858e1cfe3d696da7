-- What laying bytes into lent room means.
--     Laid   what laying bytes into lent room answers and leaves
--     New    a new record, as it is lent
pub mod Laid
pub mod New
