-- Laws of the listing in lent room.
--     Answers    each refusal exactly when, and what the encoder's answer means
--     NoChoice   the promise leaves no choice
pub mod Answers
pub mod NoChoice
