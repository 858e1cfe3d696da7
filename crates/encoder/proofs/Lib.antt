-- Laws of the encoder.
--     Codes      the walk under `cap_of` is the definition's, and fits what is needed
--     Given      document 01's table holds of the definition's answer
--     Answers    each return of `encode`, from the tests that lead to it
--     NoChoice   no public function's promise leaves a choice
pub mod Codes
pub mod Given
pub mod Answers
pub mod NoChoice
