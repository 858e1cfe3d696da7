-- For the proofs: the trees of G that may be soft.
--     Trees   its branches, in the shape of the code
pub mod Trees
