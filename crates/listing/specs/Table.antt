-- When each answer of the listing is given, and what it says (document 02, L6: "Refusals: 1 and 2, then 9 if the lent room holds fewer
-- rows", and L4: an unknown edition is 7, before all else): of an edition that is unknown or not, a word of n bytes whose first high
-- byte is at `high` (n where it has none), and a room for `room` rows where `visits` are made.
use Rattle.std.specs.Prelude.{ℕ, ◌≤◌, ◌<◌, Bool, true, false, ◌↔◌, ◌≡◌}
use Rattle.terms.specs.Limits.{word_limit}
use Rattle.listing.specs.Numbers.{Told, number_of, place_of, rows_of}

pub record Given (unknown : Bool) (n high room visits : ℕ) (r : Told) : Type 0 where
  pub seven : (number_of r ≡ 7) ↔ (unknown ≡ true)
  pub one : (number_of r ≡ 1) ↔ ((unknown ≡ false) × (word_limit < n))
  pub two : (number_of r ≡ 2) ↔ ((unknown ≡ false) × (n ≤ word_limit) × (high < n))
  pub nine : (number_of r ≡ 9) ↔ ((unknown ≡ false) × (n ≤ word_limit) × (n ≤ high) × (room < visits))
  pub listed : (number_of r ≡ 0) ↔ ((unknown ≡ false) × (n ≤ word_limit) × (n ≤ high) × (visits ≤ room))
  pub place : number_of r ≡ 2 → place_of r ≡ high
  pub no_place : (number_of r ≡ 2 → ⊥) → place_of r ≡ 0
  pub rows : number_of r ≡ 0 → rows_of r ≡ visits
  pub no_rows : 0 < number_of r → rows_of r ≡ 0
