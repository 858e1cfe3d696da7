-- Laws of J.
--     Ways       the letter's cases are the ways through its tree
--     NoChoice   no public function's promise leaves a choice
pub mod Ways
pub mod NoChoice
