-- Answers of the definition, computed.
--     Known   document 01's names with known keys, and its edges
pub mod Known
