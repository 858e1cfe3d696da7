-- Laws of the equality question.
--     Asked      what an answer of the encoder means for the verdict
--     Table      `table`, `second_after_first`, `equal_exactly`, `two_empty`: when each answer is given
--     NoChoice   no public function's promise leaves a choice
pub mod Asked
pub mod Table
pub mod NoChoice
