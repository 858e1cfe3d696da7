-- Laws of the -ger- test.
--     Texts      what it tells
--     NoChoice   no public function's promise leaves a choice
pub mod Texts
pub mod NoChoice
