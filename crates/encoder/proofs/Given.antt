-- Document 01's table holds of the definition's answer, by its four tests.
use Prim.Native.Nat.{ℕ, ◌≤◌, ◌<◌}
use mathlib.Core.Path.{◌≡◌, refl}
use mathlib.Core.List.{List}
use mathlib.Core.Bool.{Bool, true, false, cond}
use native.Mathlib.Omega.{arith}
use borrow.Author.Tests.{ltb-true, ltb-false}
use lib.Dec.{ltb}
use lib.ListN.{length}
use Rattle.terms.specs.declared.Edition.{Edition}
use Rattle.terms.specs.Limits.{Limit}
use Rattle.std.specs.Prelude.{Ok, Err}
use Rattle.answers.specs.declared.Coded.{Coded}
use Rattle.answers.specs.declared.Refusal.TheVariants.{TooLong, NotAscii, PrimaryShort, AlternateShort}
use Rattle.trimming.specs.Trim.{trimmed}
use Rattle.ascii.specs.High.{first_high}
use Rattle.terms.specs.Limits.{word_limit}
use Rattle.needs.specs.Needs.{need_of}
use Rattle.encoder.specs.Encode.{answer_of}
use Rattle.encoder.specs.Table.{Given}

-- by its four tests
module _ (n high p a need : ℕ) (x : Coded) where
  by_tests : (q₁ : Bool) → ltb word_limit n ≡ q₁ → (q₂ : Bool) → ltb high n ≡ q₂ → (q₃ : Bool) → ltb p need ≡ q₃ → (q₄ : Bool) → ltb a need ≡ q₄
      → Given n high p a need (cond q₁ (Err TooLong) (cond q₂ (Err (NotAscii high)) (cond q₃ (Err PrimaryShort) (cond q₄ (Err AlternateShort) (Ok x)))))
  by_tests true e q₂ f q₃ g q₄ h = let i : word_limit < n = ltb-true _ _ e in omega arith
  by_tests false e true f q₃ g q₄ h = let i : n ≤ word_limit = ltb-false _ _ e in let j : high < n = ltb-true _ _ f in omega arith
  by_tests false e false f true g q₄ h =
      let i : n ≤ word_limit = ltb-false _ _ e in let j : n ≤ high = ltb-false _ _ f in let k : p < need = ltb-true _ _ g in omega arith
  by_tests false e false f false g true h =
      let i : n ≤ word_limit = ltb-false _ _ e in let j : n ≤ high = ltb-false _ _ f in
      let k : need ≤ p = ltb-false _ _ g in let m : a < need = ltb-true _ _ h in omega arith
  by_tests false e false f false g false h =
      let i : n ≤ word_limit = ltb-false _ _ e in let j : n ≤ high = ltb-false _ _ f in
      let k : need ≤ p = ltb-false _ _ g in let m : need ≤ a = ltb-false _ _ h in omega arith

pub answer_given : (ed : Edition) (l : Limit) (w : List ℕ) (m n : ℕ) → Given (length w) (first_high w) m n (need_of l (length (trimmed w))) (answer_of ed l w m n)
answer_given ed l w m n =
    by_tests (length w) (first_high w) m n (need_of l (length (trimmed w))) _ (ltb word_limit (length w)) refl
    (ltb (first_high w) (length w)) refl (ltb m (need_of l (length (trimmed w)))) refl (ltb n (need_of l (length (trimmed w)))) refl
