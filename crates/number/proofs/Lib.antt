-- Laws of numbers in groups of seven bits.
--     Laws        masks and shifts as arithmetic; one group of writing and of reading
--     RoundTrip   reading a written number gives it back; what reads as a number is its one spelling
--     NoChoice    no public function's promise leaves a choice
pub mod Laws
pub mod RoundTrip
pub mod NoChoice
