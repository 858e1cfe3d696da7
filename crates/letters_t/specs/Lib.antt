-- For the proofs: the trees of T.
--     Trees   its branches, in the shape of the code
pub mod Trees
