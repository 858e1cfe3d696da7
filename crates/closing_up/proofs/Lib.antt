-- Laws of closing up.
--     Up         copying down, and closing up
--     NoChoice   no public function's promise leaves a choice
pub mod Up
pub mod NoChoice
