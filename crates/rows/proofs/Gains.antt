-- A gain that is told as one number has the bytes of the addition: no byte of the table's texts is 0 or above 255.
use Prim.Native.Nat.{ℕ, ◌+◌, ◌-◌, ◌*◌, ◌/◌, ◌%◌, ◌<◌}
use mathlib.Core.Path.{◌≡◌, refl, sym, ap, ◌∙◌}
use mathlib.Core.Bool.{Bool, true, ◌&&◌}
use mathlib.Core.List.{List, [], ◌∷◌, map}
use native.Mathlib.Omega.{arith}
use native.Mathlib.Nat.{add-mul-mod_self_left, add-mul-div_left, mod-eq_of_lt, div-eq_of_lt, zero-add}
use borrow.Author.Tests.{ne_eqb, lt-ltb, le-ltb, ltb-true}
use lib.Dec.{ltb}
use lib.ListN.{get_or}
use Rattle.byte.specs.Text.{bytes, upper}
use Rattle.basics.proofs.Tests.{both}
use Rattle.rules.specs.Case.{Case, case, added}
use Rattle.rules.specs.Kept.{bytes_of}
use Rattle.rules.specs.Plain.{swallows, cases_vowel, cases_rest}
use Rattle.rules.specs.CasesC.{cases_c}
use Rattle.rules.specs.CasesDL.{cases_d, cases_h, cases_j, cases_l}
use Rattle.rules.specs.CasesG.{cases_g}
use Rattle.rules.specs.CasesMZ.{cases_m, cases_p, cases_r, cases_t, cases_w, cases_x, cases_z}
use Rattle.rules.specs.CasesS.{cases_s}
use Rattle.rules.specs.Table.{rows, cases_in, visit, spoken_at}
use Rattle.terms.specs.declared.Edition.{Edition}
use Rattle.outcome.specs.declared.Visit.{Visit}
use Rattle.basics.proofs.Every.{every}
use Rattle.rules.proofs.Each.{row_passes}
use Rattle.rules.proofs.Told.{spoken_visit}
use Rattle.walk.specs.Walk.{joined, to_primary, to_alternate}
use Rattle.walk.specs.Word.{rule_of}
use Rattle.row.specs.Numbers.{gained}
use Rattle.rows.specs.Listing.{bytes_gained, mode_of, row_at}
use Rattle.rows.specs.Speaks.{the_case}
use Rattle.rows.specs.Right.{primary_gains, alternate_gains}
use Rattle.rows.proofs.Speaks.{every_at, says}

abbrev sounding : List ℕ → Bool
sounding [] = true
sounding (b ∷ s) = (ltb 0 b && ltb b 256) && sounding s

gain_one : (a : ℕ) → 0 < a → a < 256 → bytes_gained a ≡ a ∷ []
gain_one a h l = rw (ne_eqb a 0 (λ e. omega arith), lt-ltb a 256 l)

gain_two : (a b : ℕ) → a < 256 → 0 < b → bytes_gained (a + 256 * b) ≡ a ∷ b ∷ []
gain_two a b l h =
    let z : 0 < 256 = omega arith in
    let m : (a + 256 * b) % 256 ≡ a = add-mul-mod_self_left a 256 b ∙ mod-eq_of_lt l in
    let d : (a + 256 * b) / 256 ≡ b = add-mul-div_left a b z ∙ ap (λ (k : ℕ). k + b) (div-eq_of_lt l) ∙ zero-add b in
    rw (ne_eqb (a + 256 * b) 0 (λ e. omega arith), le-ltb (a + 256 * b) 256 (omega arith), m, d)

gain_back : (s : List ℕ) → sounding s ≡ true → bytes_gained (gained (added s)) ≡ bytes_of (added s)
gain_back [] e = refl
gain_back (a ∷ []) e =
    let h = both (ltb 0 a) (ltb a 256) (both (ltb 0 a && ltb a 256) true e).0 in
    gain_one a (ltb-true 0 a h.0) (ltb-true a 256 h.1)
gain_back (a ∷ b ∷ s) e =
    let g = both (ltb 0 a && ltb a 256) (sounding (b ∷ s)) e in
    let h = both (ltb 0 a) (ltb a 256) g.0 in
    let k = both (ltb 0 b) (ltb b 256) (both (ltb 0 b && ltb b 256) (sounding s) g.1).0 in
    gain_two a b (ltb-true a 256 h.1) (ltb-true 0 b k.0)

-- both texts of a case
abbrev sounds : Case → Bool
sounds c = sounding (bytes c.primary) && sounding (bytes c.alternate)

rows_sound : (b : ℕ) → every sounds (cases_in rows b) ≡ true
unfolding rows swallows cases_c cases_d cases_g cases_h cases_j cases_l cases_m cases_p cases_r cases_s cases_t cases_w cases_x cases_z cases_vowel cases_rest
rows_sound b = row_passes (every sounds) rows b refl

module _ (ed : Edition) (t : List ℕ) (p : ℕ) where
  abbrev spoken : Case
  spoken = the_case (cases_in rows (get_or (upper t) p 0)) (spoken_at (upper t) p (mode_of ed t)).case

  sound : (sounding (bytes spoken.primary) ≡ true) × (sounding (bytes spoken.alternate) ≡ true)
  sound =
      both (sounding (bytes spoken.primary)) (sounding (bytes spoken.alternate))
      (every_at sounds (cases_in rows (get_or (upper t) p 0)) ((spoken_at (upper t) p (mode_of ed t)).case - 1) refl (rows_sound (get_or (upper t) p 0)))

  -- the row's gains are what the walk's rule adds there
  primary_gain : bytes_gained (row_at ed t p).primary ≡ to_primary (rule_of ed t) p
  primary_gain =
      rw (says (upper t) p (mode_of ed t)).visit (gain_back (bytes spoken.primary) sound.0)
      ∙ ap (λ (v : Visit). bytes_of v.primary) (sym (says (upper t) p (mode_of ed t)).visit ∙ spoken_visit (upper t) p (mode_of ed t))

  alternate_gain : bytes_gained (row_at ed t p).alternate ≡ to_alternate (rule_of ed t) p
  alternate_gain =
      rw (says (upper t) p (mode_of ed t)).visit (gain_back (bytes spoken.alternate) sound.1)
      ∙ ap (λ (v : Visit). bytes_of v.alternate) (sym (says (upper t) p (mode_of ed t)).visit ∙ spoken_visit (upper t) p (mode_of ed t))

-- joined
module _ (ed : Edition) (t : List ℕ) where
  pub primary_gains_lem : (ps : List ℕ) → primary_gains (map (row_at ed t) ps) ≡ joined (to_primary (rule_of ed t)) ps
  primary_gains_lem [] = refl
  primary_gains_lem (p ∷ ps) = rw (primary_gain ed t p, primary_gains_lem ps)

  pub alternate_gains_lem : (ps : List ℕ) → alternate_gains (map (row_at ed t) ps) ≡ joined (to_alternate (rule_of ed t)) ps
  alternate_gains_lem [] = refl
  alternate_gains_lem (p ∷ ps) = rw (alternate_gain ed t p, alternate_gains_lem ps)
