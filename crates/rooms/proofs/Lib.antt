-- Laws of the room.
--     NoChoice   the promise leaves no choice
pub mod NoChoice
