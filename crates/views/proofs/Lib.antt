-- Laws of windows at a place.
--     Views      a window behind a place
--     NoChoice   no public function's promise leaves one
pub mod Views
pub mod NoChoice
