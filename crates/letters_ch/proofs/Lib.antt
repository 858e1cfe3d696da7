-- Laws of C before H.
--     Ach        condition_c0's second half, where ACH does not stand
--     NoChoice   no public function's promise leaves a choice
pub mod Ach
pub mod NoChoice
