-- Rows written.
--     Written   the first rows of a listing
pub mod Written
