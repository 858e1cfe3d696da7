-- What is shown of the walk.
--     Fewest   how many visits a limit leaves, said without a walk
--     Keeps    what the bound asks of a rule
--     Reach    the words whose alternate code reaches the bound
pub mod Fewest
pub mod Keeps
pub mod Reach
