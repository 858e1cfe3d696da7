-- An empty word needs nothing.
use Prim.Native.Nat.{ℕ}
use mathlib.Core.Path.{◌≡◌}
use native.Mathlib.Omega.{arith}
use Rattle.terms.specs.Limits.{Limit}
use Rattle.std.specs.Prelude.{Some, None}
use Rattle.needs.specs.Needs.{need_of}

pub need_none : (l : Limit) (t : ℕ) → t ≡ 0 → 0 ≡ need_of l t
need_none None t e = omega arith
need_none (Some n) t e = omega arith
