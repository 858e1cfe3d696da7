-- The listing in lent room.
--     Numbers   the numbers of each answer
--     Table     each refusal exactly when
--     Listing   what `explain` promises: its answer and the room, for every input
pub mod Numbers
pub mod Table
pub mod Listing
