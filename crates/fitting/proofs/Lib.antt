-- Laws of fitting.
--     Base       a record behind its base
--     NoChoice   no public function's promise leaves a choice
pub mod Base
pub mod NoChoice
