-- For the proofs: the trees of R.
--     Trees   its branches, in the shape of the code
pub mod Trees
