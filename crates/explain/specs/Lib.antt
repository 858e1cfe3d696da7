-- The C face of the listing.
--     Face   the numbers of an answer
pub mod Face
