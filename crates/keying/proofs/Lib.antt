-- Laws of a new record.
--     Named      the codes of a name under a header
--     Keyed      the faults of a new record's station
--     NoChoice   no public function's promise leaves a choice
pub mod Named
pub mod Keyed
pub mod NoChoice
