-- Laws of places.
--     Spots      what is asked of a place, as a fact about lists
--     NoChoice   no public function's promise leaves one
pub mod Spots
pub mod NoChoice
