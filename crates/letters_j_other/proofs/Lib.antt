-- Laws of J in no Spanish name.
--     FirstJ     a first J
--     NoChoice   no public function's promise leaves a choice
pub mod FirstJ
pub mod NoChoice
