-- Laws of adding.
--     Adding     adding, from what the functions' tests show
--     NoChoice   no public function's promise leaves a choice
pub mod Adding
pub mod NoChoice
