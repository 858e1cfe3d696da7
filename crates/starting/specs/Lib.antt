-- A new book.
--     New   a new book
pub mod New
