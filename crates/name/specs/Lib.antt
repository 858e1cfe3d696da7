-- Named: the faults of a name's length and of its bytes.
pub mod Named
