-- The bytes of a part that lies inside.
use Prim.Native.Nat.{ℕ, ◌+◌, ◌-◌, ◌≤◌}
use mathlib.Core.Path.{◌≡◌}
use mathlib.Core.List.{List}
use native.Mathlib.Omega.{arith}
use borrow.Author.Tests.{le-ltb}
use lib.ListN.{length, take, drop}
use Rattle.slices.specs.declared.Span.{Span}
use Rattle.slices.specs.Parts.{within}

-- ---- the bytes of a part
module _ (s : List ℕ) (p : Span) where
  pub inside : p.start + p.len ≤ length s → take (p.start + p.len - p.start) (drop p.start s) ≡ within s p
  inside h = let e : p.start + p.len - p.start ≡ p.len = omega arith in rw (le-ltb (length s) (p.start + p.len) h, e)
