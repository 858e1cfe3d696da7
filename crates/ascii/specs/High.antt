-- Whether a word is ASCII, and the place of its first other byte, after document 01's "the place of the first". proofs/High.antt shows that
-- the place is the first.
use Rattle.std.specs.Prelude.{ℕ, suc, ◌≤◌, ◌<◌, List, [], ◌∷◌, Bool, not, cond, leb, length, get_or}
use Rattle.std.specs.List.{list_any}

-- some byte is 128 or more
abbrev pub any_high : List ℕ → Bool
any_high w = list_any (λ b. leb 128 b) w

abbrev pub is_ascii : List ℕ → Bool
is_ascii w = not (any_high w)

-- the place of the first byte of 128 or more, and the length where there is none
abbrev pub first_high : List ℕ → ℕ
first_high [] = 0
first_high (b ∷ w) = cond (leb 128 b) 0 (suc (first_high w))

-- `at` is the place of the first high byte of w, or the length of w if it has none
pub record First (w : List ℕ) (at : ℕ) : Type 0 where
  pub within : at ≤ length w
  pub here : at < length w → 128 ≤ get_or w at 0
  pub before : (k : ℕ) → k < at → get_or w k 0 < 128
