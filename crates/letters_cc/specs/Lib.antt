-- For the proofs: the trees of a double C.
--     Trees   its branches, in the shape of the code
pub mod Trees
