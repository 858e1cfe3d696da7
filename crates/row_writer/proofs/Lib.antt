-- Laws of rows written.
--     Written    one row behind another
--     NoChoice   no public function's promise leaves a choice
pub mod Written
pub mod NoChoice
