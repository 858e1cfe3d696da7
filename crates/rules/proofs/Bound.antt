-- No text of the table has more than two bytes, so an addition is its text whole, and no case passes over more than three
-- bytes.
use Prim.Native.Nat.{ℕ, ◌≤◌}
use mathlib.Core.Bool.{Bool, true, false, cond, ◌&&◌}
use mathlib.Core.List.{List, [], ◌∷◌}
use mathlib.Core.Path.{◌≡◌, refl}
use native.Mathlib.Omega.{arith}
use borrow.Author.Tests.{leb-true}
use lib.Dec.{leb}
use lib.ListN.{get_or, length}
use Rattle.byte.specs.Text.{bytes}
use Rattle.basics.proofs.Tests.{both}
use Rattle.rules.specs.Cond.{Mode, holds}
use Rattle.rules.specs.Case.{Case, added, gives, first}
use Rattle.rules.specs.Plain.{swallows, cases_vowel, cases_rest}
use Rattle.rules.specs.CasesC.{cases_c}
use Rattle.rules.specs.CasesDL.{cases_d, cases_h, cases_j, cases_l}
use Rattle.rules.specs.CasesG.{cases_g}
use Rattle.rules.specs.CasesMZ.{cases_m, cases_p, cases_r, cases_t, cases_w, cases_x, cases_z}
use Rattle.rules.specs.CasesS.{cases_s}
use Rattle.rules.specs.Table.{rows, cases_in, visit}
use Rattle.rules.specs.Kept.{bytes_of, Short}
use Rattle.outcome.specs.declared.Add.{Add}
use Rattle.outcome.specs.declared.Add.TheVariants.{Nothing, One, Two}
use Rattle.outcome.specs.declared.Visit.{Visit}
use Rattle.basics.proofs.Every.{every}
use Rattle.rules.proofs.Each.{row_passes}

-- a text of at most two bytes is added whole
pub added_whole : (s : List ℕ) → length s ≤ 2 → bytes_of (added s) ≡ s
added_whole [] h = refl
added_whole (a ∷ []) h = refl
added_whole (a ∷ b ∷ []) h = refl
added_whole (a ∷ b ∷ c ∷ s) h = absurd (omega arith)

-- both texts have at most two bytes, and at most three are passed over
abbrev short : Case → Bool
short c = leb (length (bytes c.primary)) 2 && (leb (length (bytes c.alternate)) 2 && leb c.over 3)

-- at each case of every byte
pub texts_short : (b : ℕ) → every short (cases_in rows b) ≡ true
unfolding rows swallows cases_c cases_d cases_g cases_h cases_j cases_l cases_m cases_p cases_r cases_s cases_t cases_w cases_x cases_z cases_vowel cases_rest
texts_short b = row_passes (every short) rows b refl

-- ---- what that says of a visit
add_short : (a : Add) → length (bytes_of a) ≤ 2
add_short Nothing = omega arith
add_short (One a) = omega arith
add_short (Two a b) = omega arith

over_chosen : (b : Bool) (x y : Visit) → x.over ≤ 3 → y.over ≤ 3 → (cond b x y).over ≤ 3
over_chosen true x y i j = i
over_chosen false x y i j = j

over_first : (cs : List Case) → every short cs ≡ true → (u : List ℕ) (p : ℕ) (m : Mode) → (first cs u p m).over ≤ 3
unfolding first
over_first [] e u p m = omega arith
over_first (c ∷ cs) e u p m =
    let h = both (short c) (every short cs) e in
    let k = both (leb (length (bytes c.primary)) 2) _ h.0 in
    let j = both (leb (length (bytes c.alternate)) 2) _ k.1 in
    over_chosen (holds c.when u p m) (gives c) (first cs u p m) (leb-true _ _ j.1) (over_first cs h.1 u p m)

pub visit_short : (u : List ℕ) (p : ℕ) (m : Mode) → Short (visit u p m)
unfolding visit
visit_short u p m =
    record {
      primary = add_short (visit u p m).primary;
      alternate = add_short (visit u p m).alternate;
      over = over_first (cases_in rows (get_or u p 0)) (texts_short (get_or u p 0)) u p m;
    }
