-- For the proofs: the trees of L.
--     Trees   its branches, in the shape of the code
pub mod Trees
