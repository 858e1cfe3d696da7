-- For the proofs: the trees of M.
--     Trees   its branches, in the shape of the code
pub mod Trees
