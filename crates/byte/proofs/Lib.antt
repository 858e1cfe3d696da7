-- Laws of bytes.
--     Case       capitals, byte by byte
--     Mask       a mask of letters
--     NoChoice   no public function's promise leaves one
pub mod Case
pub mod Mask
pub mod NoChoice
