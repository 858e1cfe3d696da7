-- Laws of pairs counted and written.
--     Copies    pairs as numbers in the room, and a run copied beside a station
--     Pairing   the loops over the first book, and what the count says of the room
--     NoChoice   no public function's promise leaves a choice
pub mod Copies
pub mod Pairing
pub mod NoChoice
