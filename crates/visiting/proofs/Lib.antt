-- Laws of the lent tally.
--     NoChoice   no public function's promise leaves a choice
pub mod NoChoice
