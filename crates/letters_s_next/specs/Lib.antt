-- For the proofs: the trees of S that is not silent, and before no H, IO or IA.
pub mod Trees
