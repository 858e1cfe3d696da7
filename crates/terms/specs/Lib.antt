-- What the documents fix once.
--     Faults     the faults, and their numbers
--     Limits     the word limit, and a code under a limit
--     Editions   the known formats and editions, and a new book's
pub mod Faults
pub mod Limits
pub mod Editions
