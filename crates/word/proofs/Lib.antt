-- Laws of the mark.
--     Mark       the mark, one place at a time
--     NoChoice   no public function's promise leaves a choice
pub mod Mark
pub mod NoChoice
