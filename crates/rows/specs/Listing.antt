-- The listing of a word (document 02, L6): "for each visit of a word: place, letter, case number, matched text's number or 0, what each
-- code gained, bytes passed over. Rows are the visits under the given edition and limit, in order; gains are taken before clipping."
-- `listing_right` in proofs/Rows.antt says what the rows are without this evaluation.
use Rattle.std.specs.Prelude.{ℕ, ◌/◌, ◌%◌, cond, List, [], ◌∷◌, ◌++◌, map, eqb, ltb, get_or, take}
use Rattle.byte.specs.Text.{upper}
use Rattle.rules.specs.Cond.{Mode, mode}
use Rattle.terms.specs.Editions.{is_second}
use Rattle.rules.specs.Table.{spoken_at}
use Rattle.terms.specs.declared.Edition.{Edition}
use Rattle.row.specs.Numbers.{Row, row_of, numbers_of}
use Rattle.word.specs.Mark.{slavo_germanic}
use Rattle.walk.specs.Word.{visits_of}
use Rattle.terms.specs.Limits.{Limit}
use Rattle.encoder.specs.Encode.{visits_under}

-- the bytes of a gain that is told as one number (`gain_back` in proofs/Gains.antt)
abbrev pub bytes_gained : ℕ → List ℕ
bytes_gained n = cond (eqb n 0) [] (cond (ltb n 256) (n ∷ []) (n % 256 ∷ n / 256 ∷ []))

-- what the rules are told of a trimmed word besides the place
abbrev pub mode_of : Edition → List ℕ → Mode
mode_of ed t = mode (slavo_germanic (upper t)) (is_second ed)

-- the row of the visit at a place of the trimmed word; letters a to z count as A to Z
abbrev pub row_at : Edition → List ℕ → ℕ → Row
row_at ed t p = row_of (get_or (upper t) p 0) p (spoken_at (upper t) p (mode_of ed t))

-- the places that the walk visits under a limit: of those with no limit the first, as many as it makes visits
abbrev pub places_under : Edition → Limit → List ℕ → List ℕ
places_under ed l t = take (visits_under ed l t) (visits_of ed t)

unfoldable pub listing_of : Edition → Limit → List ℕ → List Row
listing_of ed l t = map (row_at ed t) (places_under ed l t)

-- as numbers
unfoldable pub all_numbers : List Row → List ℕ
all_numbers [] = []
all_numbers (r ∷ rs) = numbers_of r ++ all_numbers rs
