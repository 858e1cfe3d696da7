-- Trim: a word between its blanks.
pub mod Trim
