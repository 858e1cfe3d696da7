-- Parker's rule holds exactly where it tells a text, so that the code asks it as a number.
use Prim.Native.Nat.{ℕ}
use mathlib.Core.List.{List}
use native.Mathlib.Omega.{arith}
use Rattle.rules.specs.Cond.{Mode}
use Rattle.rules.specs.CasesG.{parker}
use Rattle.rules.proofs.Told.{Exact, exact_past, exact_or}

module _ (u : List ℕ) (p : ℕ) (m : Mode) where
  pub exact_parker : Exact u p m parker
  exact_parker =
      exact_or u p m _ _
      (exact_or u p m _ _ (exact_past u p m 1 2 1 _ (omega arith)) (exact_past u p m 2 3 1 _ (omega arith)))
      (exact_past u p m 3 4 1 _ (omega arith))
