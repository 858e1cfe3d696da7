-- Laws of the join.
--     Laying     both books laid out in one scratch
--     Meet       from two books that meet to what is promised of them
--     NoChoice   no public function's promise leaves a choice
pub mod Laying
pub mod Meet
pub mod NoChoice
