-- Laws of the listing.
--     Speaks   the case that speaks is the first that holds, and its text stands at its window
--     Gains    a gain told as a number has its bytes
--     Rows     the rows of a word are its visits, and their gains its codes
pub mod Speaks
pub mod Gains
pub mod Rows
