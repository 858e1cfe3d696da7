-- The station key book.
--     Book   header and records: how they are written, and how they are read, one record or all
--     Told   what the functions answer
--     Room   the book in the first bytes of lent room
pub mod Book
pub mod Told
pub mod Room
