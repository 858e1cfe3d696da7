-- `byte::capital` meets its contract: the library's small letters are those of `up`.
use mathlib.Core.Logic.{inl, inr}
use mathlib.Core.Path.{◌≡◌}
use Prim.Native.Nat.{ℕ}
use native.Mathlib.Omega.{arith}
use borrow.Author.Tests.{le-leb, lt-leb}
use Rattle.std.specs.Char.{UppercasesTo}
use Rattle.byte.specs.Text.{up}
use Rattle.byte.proofs.capital.Goals as goal

told : (b r : ℕ) → UppercasesTo b r → r ≡ up b
unfolding up
told b r (inl (a, e)) = simp (le-leb 97 b (omega arith), le-leb b 122 (omega arith)) (omega arith)
told b r (inr (inl a, e)) = simp (lt-leb 97 b a) e
told b r (inr (inr a, e)) = simp (lt-leb b 122 a, le-leb 97 b (omega arith)) e

pub returns : goal.returns
returns c = told _ _ c.to_ascii_uppercase.ensures.cases
