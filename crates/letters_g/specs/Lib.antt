-- For the proofs: the trees of G.
pub mod Trees
