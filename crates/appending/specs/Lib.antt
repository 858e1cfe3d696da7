-- The end of a good book.
--     Ended   the end of a good book, and going on from it
pub mod Ended
