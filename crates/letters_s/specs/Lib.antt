-- For the proofs: the trees of S.
pub mod Trees
