-- What a join is worth.
--     Afresh   books whose codes are right for their names, and their records encoded afresh
--     Order    the order of pairs, each once, and what it is to be listed
pub mod Afresh
pub mod Order
