-- Lemmas of the printed book.
mod Moved
