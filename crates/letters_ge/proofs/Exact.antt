-- A condition of G that holds exactly where it tells a text, so that the code asks it as a number.
use Prim.Native.Nat.{ℕ}
use mathlib.Core.List.{List}
use native.Mathlib.Omega.{arith}
use Rattle.rules.specs.Cond.{Mode}
use Rattle.rules.specs.CasesG.{biaggi}
use Rattle.rules.proofs.Told.{Exact, exact_window, exact_past, exact_or}

module _ (u : List ℕ) (p : ℕ) (m : Mode) where
  pub exact_biaggi : Exact u p m biaggi
  exact_biaggi = exact_or u p m _ _ (exact_window u p m _ _ _) (exact_past u p m 0 1 4 _ (omega arith))
