-- Laws of a stored name.
--     Told       a name, as the code tells it
--     NoChoice   no public function's promise leaves a choice
pub mod Told
pub mod NoChoice
