-- Laws of copying.
--     Copies     a copying loop, turn by turn
--     NoChoice   no public function's promise leaves a choice
pub mod Copies
pub mod NoChoice
