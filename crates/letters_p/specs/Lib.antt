-- For the proofs: the trees of P.
--     Trees   its branches, in the shape of the code
pub mod Trees
