-- What is asked of a place in a word.
--     Spot   a byte, a vowel, a step back, the end
pub mod Spot
