-- Laws of ASCII.
--     High       the search for a byte that is no ASCII; `any_is_first`, `first_high_lem`: the place reported is the first
--     NoChoice   no public function's promise leaves a choice
pub mod High
pub mod NoChoice
