-- For the proofs: the trees of S before C.
--     Trees   its branches, in the shape of the code
pub mod Trees
