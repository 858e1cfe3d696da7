-- Laws of G that may be soft.
--     Exact      a condition that is asked as a number
--     NoChoice   no public function's promise leaves a choice
pub mod Exact
pub mod NoChoice
