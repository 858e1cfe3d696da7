-- Laws of additions.
--     Clip       additions clipped to a limit
--     NoChoice   no public function's promise leaves a choice
pub mod Clip
pub mod NoChoice
