-- Laws of the line reader.
--     Split      the lines of an input that is read in two parts; `split`, `split_one`: they are the input's lines and no others
--     Hand       what is held of a line
--     Read       one byte read, bytes read on, and the end of the input
--     Cut        `lines_output`: any feeds and a finish write the definition's output; `lines_cut_anywhere`
--     Sample     document 01's four lines, computed
--     NoChoice   no public function's promise leaves a choice
pub mod Split
pub mod Hand
pub mod Read
pub mod Cut
pub mod Sample
pub mod NoChoice
