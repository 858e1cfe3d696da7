-- Facts about every visit, proved from the table: a test that antt computes over all cases, and one law that carries it to the
-- case that speaks.
use Prim.Native.Nat.{ℕ}
use mathlib.Core.Bool.{Bool, true, false, cond, ◌&&◌}
use mathlib.Core.List.{List, [], ◌∷◌}
use mathlib.Core.Path.{◌≡◌}
use Rattle.byte.specs.Text.{bytes}
use Rattle.byte.specs.Vowel.{among}
use Rattle.basics.proofs.Tests.{both}
use Rattle.rules.specs.Case.{Case}
use Rattle.rules.specs.Plain.{cases_rest}
use Rattle.rules.specs.Table.{Row, cases_in}

-- the test of a list of cases passes at each letter, and at the rest
abbrev pub every_row : (List Case → Bool) → List Row → Bool
every_row f [] = f cases_rest
every_row f (r ∷ rs) = f r.cases && every_row f rs

in_letter : (f : List Case → Bool) (b : Bool) (x y : List Case) → f x ≡ true → f y ≡ true → f (cond b x y) ≡ true
in_letter f true x y i j = i
in_letter f false x y i j = j

-- then it passes at the cases of each byte
pub row_passes : (f : List Case → Bool) (rs : List Row) (b : ℕ) → every_row f rs ≡ true → f (cases_in rs b) ≡ true
unfolding cases_in
row_passes f [] b e = e
row_passes f (r ∷ rs) b e =
    let h = both (f r.cases) (every_row f rs) e in
    in_letter f (among (bytes r.keys) b) r.cases (cases_in rs b) h.0 (row_passes f rs b h.1)
