-- The listing of a word, as a definition.
--     Listing   the row of a visit, and the rows of a word under an edition and a limit
--     Speaks    what is told of a visit, said without the evaluation that tells it
--     Right     what the rows of a word are: its visits, its codes, its cases and their texts
pub mod Listing
pub mod Speaks
pub mod Right
