-- The equality question's answers: when each is given, and what a comparison of two accepted words says.
use Prim.Native.Nat.{ℕ, ◌≤◌, ◌<◌}
use mathlib.Core.Path.{◌≡◌, refl, sym, ap, ap₂, subst, ◌∙◌}
use mathlib.Core.List.{List, []}
use mathlib.Core.Logic.{◌↔◌}
use mathlib.Core.Bool.{Bool, true, false, cond}
use native.Mathlib.Omega.{arith}
use borrow.Author.Tests.{ltb-true, ltb-false, le-ltb}
use lib.Dec.{ltb}
use lib.ListN.{length}
use Rattle.terms.specs.Limits.{Limit}
use Rattle.chosen.specs.declared.Choice.{Choice}
use Rattle.ascii.specs.High.{first_high}
use Rattle.terms.specs.Limits.{word_limit}
use Rattle.demands.specs.Demand2.{Taken}
use Rattle.ascii.proofs.High.{no_high}
use Rattle.demands.proofs.Demand2.{taken_by}
use Rattle.std.specs.Prelude.{Ok, Err}
use Rattle.answers.specs.declared.Word.{Word}
use Rattle.answers.specs.declared.WordRefusal.{WordRefusal}
use Rattle.answers.specs.declared.Word.TheVariants.{First, Second}
use Rattle.answers.specs.declared.Refusal.TheVariants.{TooLong, NotAscii}
use Rattle.terms.specs.declared.Edition.TheVariants.{E1}
use Rattle.demands.specs.Code.{code_of}
use Rattle.equality.specs.Equality.{Verdict, word_of, equal_of, refused, unless_refused, Refuses, compared, verdict_of, Answered}
use Rattle.equality.specs.Table.{Told}
use Rattle.basics.specs.Same.{same}
use Rattle.basics.proofs.Same.{same_true, same_refl}

-- by its five tests
module _ (n high n' high' : ℕ) where
  by_tests : (q₁ : Bool) → ltb word_limit n ≡ q₁ → (q₂ : Bool) → ltb high n ≡ q₂ → (q₃ : Bool) → ltb word_limit n' ≡ q₃ → (q₄ : Bool) → ltb high' n' ≡ q₄ → (q₅ : Bool)
      → Told n high n' high' (cond q₁ (refused First TooLong) (cond q₂ (refused First (NotAscii high)) (cond q₃ (refused Second TooLong) (cond q₄ (refused Second (NotAscii high')) (Ok q₅)))))
  by_tests true e q₂ f q₃ g q₄ h q₅ = let i : word_limit < n = ltb-true _ _ e in omega arith
  by_tests false e true f q₃ g q₄ h q₅ = let i : n ≤ word_limit = ltb-false _ _ e in let j : high < n = ltb-true _ _ f in omega arith
  by_tests false e false f true g q₄ h q₅ =
      let i : n ≤ word_limit = ltb-false _ _ e in let j : n ≤ high = ltb-false _ _ f in let k : word_limit < n' = ltb-true _ _ g in omega arith
  by_tests false e false f false g true h q₅ =
      let i : n ≤ word_limit = ltb-false _ _ e in let j : n ≤ high = ltb-false _ _ f in
      let k : n' ≤ word_limit = ltb-false _ _ g in let m : high' < n' = ltb-true _ _ h in omega arith
  by_tests false e false f false g false h true =
      let i : n ≤ word_limit = ltb-false _ _ e in let j : n ≤ high = ltb-false _ _ f in
      let k : n' ≤ word_limit = ltb-false _ _ g in let m : n' ≤ high' = ltb-false _ _ h in omega arith
  by_tests false e false f false g false h false =
      let i : n ≤ word_limit = ltb-false _ _ e in let j : n ≤ high = ltb-false _ _ f in
      let k : n' ≤ word_limit = ltb-false _ _ g in let m : n' ≤ high' = ltb-false _ _ h in omega arith

-- a word that is taken is not refused
pub taken_passes : (which : Word) (w : List ℕ) (v : Verdict) → Taken w → unless_refused which w v ≡ v
taken_passes which w v t = rw (le-ltb word_limit (length w) t.fits, le-ltb (first_high w) (length w) (no_high w t.ascii))

compared_equal : (x y : List ℕ) (q : Bool) → same x y ≡ q → equal_of (Ok q) ≡ 1 → x ≡ y
compared_equal x y true t e = same_true x y t
compared_equal x y false t e = absurd (omega arith)

module _ (l : Limit) (c : Choice) (one two : List ℕ) where
  pub table : Told (length one) (first_high one) (length two) (first_high two) (verdict_of l c one two)
  table =
      by_tests (length one) (first_high one) (length two) (first_high two) (ltb word_limit (length one)) refl (ltb (first_high one) (length one)) refl
      (ltb word_limit (length two)) refl (ltb (first_high two) (length two)) refl (same (code_of E1 l c one) (code_of E1 l c two))

  -- so an answer that is the definition's is as `equal` promises
  pub answered : {r : Verdict} → r ≡ verdict_of l c one two → Answered l c one two r
  answered e = record { told = subst (λ (v : Verdict). Told (length one) (first_high one) (length two) (first_high two) v) (sym e) table; answer = e }

  pub first_refused : {r : WordRefusal} → Refuses First one r → Answered l c one two (Err r)
  first_refused h = answered (sym (h _))

  pub second_refused : {r : WordRefusal} → Taken one → Refuses Second two r → Answered l c one two (Err r)
  second_refused x h = answered (sym (taken_passes First one _ x ∙ h _))

  -- the second word is refused only if the first is not
  pub second_after_first : word_of (verdict_of l c one two) ≡ 2 → Taken one
  second_after_first e = let s = table.second e in taken_by one s.0 s.1

  -- two words that are taken are compared by their codes
  both_taken : Taken one → Taken two → verdict_of l c one two ≡ compared (code_of E1 l c one) (code_of E1 l c two)
  both_taken x y = taken_passes First one _ x ∙ taken_passes Second two _ y

  pub both_compared : Taken one → Taken two → {first second : List ℕ} → first ≡ code_of E1 l c one → second ≡ code_of E1 l c two → {q : Bool} → q ≡ same first second
      → Answered l c one two (Ok q)
  both_compared x y e f h = answered (ap Ok (h ∙ ap₂ same e f) ∙ sym (both_taken x y))

  same_codes : Taken one → Taken two → code_of E1 l c one ≡ code_of E1 l c two → verdict_of l c one two ≡ Ok true
  same_codes x y e = both_taken x y ∙ rw (e, same_refl (code_of E1 l c two))

  -- equal exactly when both are taken and have one code
  pub equal_exactly : (equal_of (verdict_of l c one two) ≡ 1) ↔ (Taken one × Taken two × (code_of E1 l c one ≡ code_of E1 l c two))
  equal_exactly = (forth, λ (x, y, e). ap equal_of (same_codes x y e))
    where
      forth : equal_of (verdict_of l c one two) ≡ 1 → Taken one × Taken two × (code_of E1 l c one ≡ code_of E1 l c two)
      forth e =
          let t = table.compared.0 (table.equal e) in
          let x : Taken one = taken_by one t.0 t.1 in
          let y : Taken two = taken_by two t.2 t.3 in
          (x, y, compared_equal (code_of E1 l c one) (code_of E1 l c two) _ refl (sym (ap equal_of (both_taken x y)) ∙ e))

  -- two empty codes are equal
  pub two_empty : Taken one → Taken two → code_of E1 l c one ≡ [] → code_of E1 l c two ≡ [] → verdict_of l c one two ≡ Ok true
  two_empty x y e f = same_codes x y (cc)
