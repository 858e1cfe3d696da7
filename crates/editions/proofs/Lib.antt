-- Laws of editions.
--     Editions   `edition_seven`, `edition_encoded`: an edition by its number
--     NoChoice   no public function's promise leaves a choice
pub mod Editions
pub mod NoChoice
