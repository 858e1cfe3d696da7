-- Laws of L.
--     Texts      the number that a condition tells of
--     Ways       the letter's cases are the ways through its tree
--     NoChoice   no public function's promise leaves a choice
pub mod Texts
pub mod Ways
pub mod NoChoice
