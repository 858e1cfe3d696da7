-- The pairs of a join.
--     Cut       a code under a limit, the smaller of two limits
--     Pairs     the definition: all pairs of stations whose codes agree, and their order
--     Listed    records as they lie in scratch words
--     Held      the same, by what their keys are made from
pub mod Cut
pub mod Pairs
pub mod Listed
pub mod Held
