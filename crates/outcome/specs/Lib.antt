-- The outcome of a visit.
--     Answers   an addition for each code and an advance, the case that spoke, the first number that is told
pub mod Answers
