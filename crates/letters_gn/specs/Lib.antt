-- For the proofs: the trees of G before N.
--     Trees   its branches, in the shape of the code
pub mod Trees
