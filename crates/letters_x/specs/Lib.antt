-- For the proofs: the trees of X.
--     Trees   its branches, in the shape of the code
pub mod Trees
