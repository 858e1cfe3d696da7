-- Laws of chains.
--     Chain      how chains are built, and that a walk along one skips no record of the key
--     Hash       the slot of a key, one byte at a time
--     Walks      a walk along a chain for a key: the search, and the stores of a run
--     NoChoice   no public function's promise leaves a choice
pub mod Chain
pub mod Hash
pub mod Walks
pub mod NoChoice
