-- The walk.
--     Walk   for any rule: the places visited, what they add, the walk with no limit and under one
--     Word   a trimmed word: its rule, its codes
pub mod Walk
pub mod Word
