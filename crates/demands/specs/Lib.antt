-- The user's demands 2 and 3.
--     Code      the chosen code of a word
--     Demand2   what an accepted word gets
--     Demand3   the codes under a limit, the visits, the bound
pub mod Code
pub mod Demand2
pub mod Demand3
