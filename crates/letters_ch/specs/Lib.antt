-- For the proofs: the trees of C before H.
--     Trees   its branches, in the shape of the code
pub mod Trees
