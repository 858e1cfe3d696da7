-- The header of a book.
--     Head   how a header is written, and what reading it gives
pub mod Head
