-- For the proofs: the trees of W.
--     Trees   its branches, in the shape of the code
pub mod Trees
