-- Numbers in groups of seven bits.
--     Septets   the shortest spelling, its reading, and what the writer answers and leaves
pub mod Septets
