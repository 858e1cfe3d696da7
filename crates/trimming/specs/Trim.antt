-- A word's trimmed part, after document 01's "Trim bytes 9 to 13 and 32 at both ends, nothing else". proofs/Trim.antt shows that it is what
-- lies between blanks.
use Rattle.std.specs.Prelude.{ℕ, ◌-◌, ◌<◌, ◌≡◌, List, [], ◌∷◌, ◌++◌, Bool, true, false, cond, ◌||◌, ◌&&◌, leb, eqb, length, get_or}

-- bytes 9 to 13 and 32
abbrev pub blank : ℕ → Bool
blank b = (leb 9 b && leb b 13) || eqb b 32

abbrev pub trim_start : List ℕ → List ℕ
trim_start [] = []
trim_start (b ∷ w) = cond (blank b) (trim_start w) (b ∷ w)

-- a byte before the trimmed rest: a blank goes where nothing is left behind it
abbrev pub keep : ℕ → List ℕ → List ℕ
keep b [] = cond (blank b) [] (b ∷ [])
keep b (x ∷ w) = b ∷ x ∷ w

abbrev pub trim_end : List ℕ → List ℕ
trim_end [] = []
trim_end (b ∷ w) = keep b (trim_end w)

unfoldable pub trimmed : List ℕ → List ℕ
trimmed w = trim_end (trim_start w)

abbrev pub all_blank : List ℕ → Bool
all_blank [] = true
all_blank (b ∷ w) = blank b && all_blank w

-- t is what lies in w between blanks, and neither begins nor ends with one
pub record Between (w t : List ℕ) : Type 0 where
  pub before : List ℕ
  pub after : List ℕ
  pub whole : w ≡ before ++ (t ++ after)
  pub blank_before : all_blank before ≡ true
  pub blank_after : all_blank after ≡ true
  pub first : 0 < length t → blank (get_or t 0 0) ≡ false
  pub last : 0 < length t → blank (get_or t (length t - 1) 0) ≡ false
