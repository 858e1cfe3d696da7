-- Pairs in lent room.
--     Room   what is answered, and left in the room
pub mod Room
