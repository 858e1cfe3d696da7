-- For the proofs: the trees of H.
--     Trees   its branches, in the shape of the code
pub mod Trees
