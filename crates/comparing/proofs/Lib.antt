-- Laws of comparing.
--     Bytes      the library's `==` of two slices
--     NoChoice   no public function's promise leaves a choice
pub mod Bytes
pub mod NoChoice
