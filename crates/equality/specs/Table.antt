-- When each answer of the equality question is given, and what it says, in document 01's numbers: of a first word of n bytes whose
-- first high byte is at `high` (n where it has none), and a second of n' with `high'`. It is part of what `equal` promises.
use Rattle.std.specs.Prelude.{ℕ, ◌≤◌, ◌<◌, ◌≡◌, ◌↔◌}
use Rattle.terms.specs.Limits.{word_limit}
use Rattle.answers.specs.Verdicts.{Verdict, number_of, word_of, place_of, equal_of}

pub record Told (n high n' high' : ℕ) (r : Verdict) : Type 0 where
  pub one_first : ((number_of r ≡ 1) × (word_of r ≡ 1)) ↔ (word_limit < n)
  pub two_first : ((number_of r ≡ 2) × (word_of r ≡ 1)) ↔ ((n ≤ word_limit) × (high < n))
  pub one_second : ((number_of r ≡ 1) × (word_of r ≡ 2)) ↔ ((n ≤ word_limit) × (n ≤ high) × (word_limit < n'))
  pub two_second : ((number_of r ≡ 2) × (word_of r ≡ 2)) ↔ ((n ≤ word_limit) × (n ≤ high) × (n' ≤ word_limit) × (high' < n'))
  pub compared : (number_of r ≡ 0) ↔ ((n ≤ word_limit) × (n ≤ high) × (n' ≤ word_limit) × (n' ≤ high'))
  pub place_first : number_of r ≡ 2 → word_of r ≡ 1 → place_of r ≡ high
  pub place_second : number_of r ≡ 2 → word_of r ≡ 2 → place_of r ≡ high'
  pub no_place : (number_of r ≡ 2 → ⊥) → place_of r ≡ 0
  pub no_word : number_of r ≡ 0 → word_of r ≡ 0
  pub refused : 0 < number_of r → equal_of r ≡ 0
  pub equal : equal_of r ≡ 1 → number_of r ≡ 0
  pub second : word_of r ≡ 2 → (n ≤ word_limit) × (n ≤ high)
