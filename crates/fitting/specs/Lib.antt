-- A record fitted into a book.
--     Base   what a record is added to, and what adding it answers and leaves
pub mod Base
