-- Laws of runs.
--     Runs       a run for the first record of each key; all runs together fit; the run that a search finds
--     NoChoice   no public function's promise leaves a choice
pub mod Runs
pub mod NoChoice
