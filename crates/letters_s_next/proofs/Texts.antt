-- What the conditions of S that is not silent, and before no H, IO or IA, tell.
use Prim.Native.Nat.{ℕ}
use mathlib.Core.Path.{◌≡◌, refl, sym, ◌∙◌}
use mathlib.Core.Bool.{Bool, true, false, false≢true, cond}
use mathlib.Core.List.{List, [], ◌∷◌}
use borrow.Author.Tests.{eqb-false}
use lib.Dec.{eqb}
use Rattle.basics.proofs.Tests.{both}
use Rattle.rules.specs.Cond.{Cond, Mode, window, past, left, ahead, back, ◌&◌, holds}
use Rattle.rules.specs.CasesS.{smith, artois}
use Rattle.rules.specs.Told.{text_of}
use Rattle.outcome.specs.Answers.{or_else}
use Rattle.rules.proofs.Told.{exact_window, untold, told_alone}

-- a Z that is told beside the condition has been told in it
again : (a b : ℕ) → or_else a b ≡ 0 → b ≡ 0
again a b h = by (eqb a 0) refl h
  where
    by : (z : Bool) → eqb a 0 ≡ z → cond z b a ≡ 0 → b ≡ 0
    by true q k = k
    by false q k = absurd (eqb-false a 0 q k)

pub smith_z : (u : List ℕ) (p : ℕ) → text_of smith u p ≡ text_of (smith & window (ahead 1) 1 ("Z" ∷ [])) u p
unfolding text_of
smith_z u p = told_alone _ _ (λ h. again (text_of (window (ahead 1) 1 ("M" ∷ "N" ∷ "L" ∷ "W" ∷ [])) u p) (text_of (window (ahead 1) 1 ("Z" ∷ [])) u p) h)

pub twice : (r x y : ℕ) → r ≡ x → x ≡ y → (r ≡ x) × (r ≡ y)
twice r x y e f = (e, e ∙ f)

pub artois_told : (u : List ℕ) (p r : ℕ) (m : Mode) → holds artois u p m ≡ true → r ≡ text_of artois u p → r ≡ 0 → ⊥
unfolding holds text_of
artois_told u p r m h e z =
    let w : Cond = window (back 2) 2 ("AI" ∷ "OI" ∷ []) in
    false≢true (sym (untold u p m w (exact_window u p m (back 2) 2 ("AI" ∷ "OI" ∷ [])) (sym e ∙ z)) ∙ (both (holds (past 1 & left 0) u p m) (holds w u p m) h).1)
