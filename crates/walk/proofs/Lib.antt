-- Laws of the walk.
--     Half       one code on its way into a buffer
--     Turn       one turn of the loop
--     Told       the edition as a test
--     NoChoice   no public function's promise leaves a choice
pub mod Half
pub mod Turn
pub mod Told
pub mod NoChoice
