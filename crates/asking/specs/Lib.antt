-- A host's numbers.
--     Asked   a limit and a choice
pub mod Asked
