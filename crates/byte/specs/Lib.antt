-- What a byte of a word means.
--     Text    bytes, texts and letter case
--     Vowel   the vowels
pub mod Text
pub mod Vowel
