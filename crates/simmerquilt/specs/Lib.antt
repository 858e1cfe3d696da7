-- The C face.
--     Face   a host's numbers as a choice, a cursor and an end
pub mod Face
