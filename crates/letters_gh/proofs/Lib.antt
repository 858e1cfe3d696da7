-- Laws of G before H.
--     Exact      conditions that are asked as a number
--     NoChoice   no public function's promise leaves a choice
pub mod Exact
pub mod NoChoice
