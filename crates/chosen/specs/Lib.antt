-- The chosen code.
--     Chosen   the chosen code as a part of its buffer
pub mod Chosen
