-- Laws of going on.
--     Ends       the end of a book, going on from it, and adding
--     NoChoice   no public function's promise leaves a choice
pub mod Ends
pub mod NoChoice
