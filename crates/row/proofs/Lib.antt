-- Laws of rows.
--     NoChoice   no public function's promise leaves a choice
pub mod NoChoice
