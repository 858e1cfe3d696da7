-- For the proofs: the tree of J in no Spanish name.
pub mod Trees
