-- Laws of the listing's C face.
--     NoChoice   the exported function's promise leaves no choice
pub mod NoChoice
