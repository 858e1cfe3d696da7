-- Document 01's table under "What the caller gets": "Given exactly when" and "Returns" of each number, for a word of n bytes whose
-- first high byte is at `high` (n where it has none), buffers of p and a bytes, and what is needed. It is part of
-- what `encode` promises (Encode.antt); theorem `unchanged` of crates/demands/proofs/Table.antt: a refusal leaves the buffers untouched.
use Rattle.std.specs.Prelude.{ℕ, ◌≤◌, ◌<◌, ◌≡◌, ◌↔◌}
use Rattle.terms.specs.Limits.{word_limit}
use Rattle.answers.specs.Answers.{Answer, number_of, place_of, primary_length, alternate_length, visit_count}

pub record Given (n high p a need : ℕ) (r : Answer) : Type 0 where
  pub one : (number_of r ≡ 1) ↔ (word_limit < n)
  pub two : (number_of r ≡ 2) ↔ ((n ≤ word_limit) × (high < n))
  pub three : (number_of r ≡ 3) ↔ ((n ≤ word_limit) × (n ≤ high) × (p < need))
  pub four : (number_of r ≡ 4) ↔ ((n ≤ word_limit) × (n ≤ high) × (need ≤ p) × (a < need))
  pub accepted : (number_of r ≡ 0) ↔ ((n ≤ word_limit) × (n ≤ high) × (need ≤ p) × (need ≤ a))
  pub place : number_of r ≡ 2 → place_of r ≡ high
  pub no_place : (number_of r ≡ 2 → ⊥) → place_of r ≡ 0
  pub nothing : 0 < number_of r → (primary_length r ≡ 0) × (alternate_length r ≡ 0) × (visit_count r ≡ 0)
