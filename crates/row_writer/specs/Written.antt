-- The first rows of a listing.
use Rattle.std.specs.Prelude.{ℕ, Bool, true, false, List, map, take}
use Rattle.terms.specs.declared.Edition.{Edition}
use Rattle.terms.specs.declared.Edition.TheVariants.{E1, E2}
use Rattle.walk.specs.Word.{visits_of}
use Rattle.row.specs.Numbers.{Row}
use Rattle.rows.specs.Listing.{row_at}

-- the edition that a test tells
abbrev pub edition_if : Bool → Edition
edition_if true = E2
edition_if false = E1

-- the rows of the first visits of a trimmed word
unfoldable pub first_rows : Edition → ℕ → List ℕ → List Row
first_rows ed k t = map (row_at ed t) (take k (visits_of ed t))
