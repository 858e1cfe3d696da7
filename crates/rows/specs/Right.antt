-- What the rows of a trimmed word are (document 02, L6), without the evaluation that tells them. `listing_right` in proofs/Rows.antt.
use Rattle.std.specs.Prelude.{ℕ, ◌<◌, List, [], ◌∷◌, ◌++◌, map, ◌⊎◌, ◌≡◌, length, get_or}
use Rattle.byte.specs.Text.{upper}
use Rattle.rules.specs.Case.{gives}
use Rattle.rules.specs.Table.{rows, cases_in}
use Rattle.terms.specs.declared.Edition.{Edition}
use Rattle.terms.specs.Limits.{Limit}
use Rattle.terms.specs.Limits.{clip}
use Rattle.encoder.specs.Encode.{primary_of, alternate_of, visits_under}
use Rattle.row.specs.Numbers.{Row, gained}
use Rattle.rows.specs.Listing.{bytes_gained, mode_of, row_at, places_under}
use Rattle.rows.specs.Speaks.{the_case, Speaks, windows_of, Named}

-- one row: "each case number is one of its letter's and its condition holds while no earlier one does; a text's number is 0 or names a
-- text that stands at that window of the word"
pub record Right (ed : Edition) (t : List ℕ) (r : Row) : Type 0 where
  pub inside : r.place < length t
  pub letter : r.letter ≡ get_or (upper t) r.place 0
  pub case : Speaks (cases_in rows r.letter) (upper t) r.place (mode_of ed t) r.case
  pub text : (r.text ≡ 0) ⊎ Named (windows_of (the_case (cases_in rows r.letter) r.case).when) (upper t) r.place r.text
  pub primary : r.primary ≡ gained (gives (the_case (cases_in rows r.letter) r.case)).primary
  pub alternate : r.alternate ≡ gained (gives (the_case (cases_in rows r.letter) r.case)).alternate
  pub over : r.over ≡ (the_case (cases_in rows r.letter) r.case).over

-- what the rows add to each code, joined
abbrev pub primary_gains : List Row → List ℕ
primary_gains [] = []
primary_gains (r ∷ rs) = bytes_gained r.primary ++ primary_gains rs

abbrev pub alternate_gains : List Row → List ℕ
alternate_gains [] = []
alternate_gains (r ∷ rs) = bytes_gained r.alternate ++ alternate_gains rs

-- all rows: they are the visits of the walk under the limit, as many as `encode` reports, in order; and "joined and clipped to the limit"
-- their gains "are the codes"
pub record RightRows (ed : Edition) (l : Limit) (t : List ℕ) (rs : List Row) : Type 0 where
  pub many : length rs ≡ visits_under ed l t
  pub places : map (λ (r : Row). r.place) rs ≡ places_under ed l t
  pub primary : clip l (primary_gains rs) ≡ primary_of ed l t
  pub alternate : clip l (alternate_gains rs) ≡ alternate_of ed l t
  pub each : (i : ℕ) → i < length rs → Right ed t (get_or rs i (row_at ed t 0))
