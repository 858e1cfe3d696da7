-- One line.
--     Line   what is written for a word
pub mod Line
