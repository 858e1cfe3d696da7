-- For the proofs: the trees of Z.
--     Trees   its branches, in the shape of the code
pub mod Trees
