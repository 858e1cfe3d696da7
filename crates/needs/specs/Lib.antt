-- What a word needs.
--     Needs   the need of a word, and the limit of its walk
pub mod Needs
