-- For the proofs: the trees of C.
pub mod Trees
