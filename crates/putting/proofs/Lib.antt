-- Laws of putting.
--     Laid       a header and a record, laid into lent room
--     NoChoice   no public function's promise leaves a choice
pub mod Laid
pub mod NoChoice
