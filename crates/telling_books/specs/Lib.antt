-- Answers as numbers.
--     Numbers   answers as numbers
pub mod Numbers
