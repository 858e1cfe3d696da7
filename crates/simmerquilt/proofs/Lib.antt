-- Laws of the C face.
--     NoChoice   no public function's promise leaves a choice
pub mod NoChoice
