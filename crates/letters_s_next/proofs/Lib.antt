-- Laws of S that is not silent, and before no H, IO or IA.
--     Texts      what the conditions tell
--     NoChoice   no public function's promise leaves a choice
pub mod Texts
pub mod NoChoice
