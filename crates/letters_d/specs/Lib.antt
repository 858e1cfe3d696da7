-- For the proofs: the trees of D.
--     Trees   its branches, in the shape of the code
pub mod Trees
