-- An edition by its number.
--     Editions   what `encode_in` promises: an edition by its number
pub mod Editions
