-- Laws of needs.
--     Needs      an empty word needs nothing
--     NoChoice   no public function's promise leaves a choice
pub mod Needs
pub mod NoChoice
