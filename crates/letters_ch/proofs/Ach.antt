-- Where ACH does not stand, condition_c0's second half fails: at place 0 by its first test, behind it by its third.
use Prim.Native.Nat.{ℕ, zero, suc, ◌<◌}
use mathlib.Core.Path.{◌≡◌, refl}
use mathlib.Core.Bool.{Bool, true, false, not, ◌&&◌}
use mathlib.Core.List.{List, [], ◌∷◌}
use native.Mathlib.Omega.{arith}
use borrow.Author.Tests.{lt-ltb}
use Rattle.rules.specs.Cond.{Cond, Mode, window, past, non, ◌&◌, back, holds}
use Rattle.rules.specs.CasesC.{ach}

and_third : (a w d e : Bool) → w ≡ false → false ≡ (((a && not (true && not w)) && d) && e)
and_third true w d e h = rw h refl
and_third false w d e h = refl

module _ (u : List ℕ) (p : ℕ) (m : Mode) where
  third : (c w d e : Cond) → 0 < p → holds w u p m ≡ false → false ≡ holds (c & non (past 0 & non w) & d & e) u p m
  unfolding holds
  third c w d e l h = rw (lt-ltb 0 p l) (and_third (holds c u p m) (holds w u p m) (holds d u p m) (holds e u p m) h)

at_front : (u : List ℕ) (m : Mode) → false ≡ holds ach u 0 m
unfolding holds
at_front u m = refl

pub ach_no : (u : List ℕ) (p : ℕ) (m : Mode) → holds (window (back 1) 3 ("ACH" ∷ [])) u p m ≡ false → false ≡ holds ach u p m
ach_no u zero m e = at_front u m
ach_no u (suc n) m e = third u (suc n) m _ _ _ _ (omega arith) e
