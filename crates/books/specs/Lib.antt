-- The face of the book.
--     Face   a cursor
pub mod Face
