-- Laws of two books that are to be joined.
--     Books      two that meet or are refused; the records of a book that reads; stations are small
--     NoChoice   no public function's promise leaves a choice
pub mod Books
pub mod NoChoice
