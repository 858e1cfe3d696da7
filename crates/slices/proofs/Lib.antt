-- Laws of slices.
--     Parts      a part inside
--     NoChoice   no public function's promise leaves a choice
pub mod Parts
pub mod NoChoice
