-- For the proofs: the tree of J.
pub mod Trees
