-- The join of two books.
--     Join    what the functions promise: the answer, the room and the scratch, for every input
--     Books   two books that read, as they are joined
pub mod Join
pub mod Books
