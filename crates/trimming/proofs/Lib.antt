-- Laws of trimming.
--     Trim       `between_blanks`: the trimmed word is what lies between the blanks
--     NoChoice   no public function's promise leaves a choice
pub mod Trim
pub mod NoChoice
