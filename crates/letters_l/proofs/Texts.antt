-- The number that the condition of L's first case tells of is that of its first window, where it holds.
use Prim.Native.Nat.{ℕ}
use mathlib.Core.Path.{◌≡◌, refl, sym, ◌∙◌}
use mathlib.Core.Bool.{true, false≢true}
use mathlib.Core.List.{List, [], ◌∷◌}
use Rattle.basics.specs.Same.{same}
use Rattle.basics.proofs.Tests.{both, either}
use Rattle.rules.specs.Cond.{Cond, Mode, window, past, left, rear, back, ◌&◌, ◌or◌, holds}
use Rattle.rules.specs.CasesDL.{condition_l0}
use Rattle.rules.specs.Told.{text_of}
use Rattle.rules.proofs.Told.{told_first, exact_window, untold, spot_within}

abbrev illo : Cond
illo = window (back 1) 4 ("ILLO" ∷ "ILLA" ∷ "ALLE" ∷ [])

abbrev alle : Cond
alle = window (back 1) 4 ("ALLE" ∷ [])

pub l0_told : (u : List ℕ) (p : ℕ) (m : Mode) → holds condition_l0 u p m ≡ true → text_of illo u p ≡ text_of condition_l0 u p
unfolding holds text_of same
l0_told u p m h =
    sym (told_first _ _
    (λ z.
    either (holds (left 2 & past 0 & illo) u p m) (holds ((window (rear 2) 2 ("AS" ∷ "OS" ∷ []) or window (rear 1) 1 ("A" ∷ "O" ∷ [])) & alle) u p m) h _
    (λ a. false≢true (sym (untold u p m illo (exact_window u p m (back 1) 4 ("ILLO" ∷ "ILLA" ∷ "ALLE" ∷ [])) z) ∙ (both (holds (left 2 & past 0) u p m) (holds illo u p m) a).1))
    (λ a. false≢true (sym (untold u p m alle (exact_window u p m (back 1) 4 ("ALLE" ∷ [])) (spot_within (back 1) 4 ("ALLE" ∷ []) ("ILLO" ∷ "ILLA" ∷ "ALLE" ∷ []) refl u p z))
    ∙ (both (holds (window (rear 2) 2 ("AS" ∷ "OS" ∷ []) or window (rear 1) 1 ("A" ∷ "O" ∷ [])) u p m) (holds alle u p m) a).1))))
