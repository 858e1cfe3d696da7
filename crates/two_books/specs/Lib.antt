-- Two books that are to be joined.
--     Sides   the pairs of two books, what refuses them, and what is told of them
pub mod Sides
