-- Laws of finding a record.
--     Seeking    the walk to the live record of a station
--     NoChoice   no public function's promise leaves a choice
pub mod Seeking
pub mod NoChoice
