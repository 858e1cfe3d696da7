-- With room for any code neither buffer is too short.
use Prim.Native.Nat.{ℕ, ◌-◌, ◌*◌, ◌≤◌}
use mathlib.Core.Path.{◌≡◌}
use mathlib.Core.List.{List}
use native.Mathlib.Omega.{arith}
use lib.ListN.{length}
use Rattle.terms.specs.declared.Edition.{Edition}
use Rattle.terms.specs.Limits.{Limit}
use Rattle.std.specs.Prelude.{Some, None}
use Rattle.trimming.specs.Trim.{trimmed}
use Rattle.terms.specs.Limits.{word_limit}
use Rattle.encoder.specs.Encode.{Answer, number_of, Encoded}
use Rattle.needs.specs.Needs.{need_of}
use Rattle.trimming.proofs.Trim.{trimmed_length}

pub need_at_most : (l : Limit) (t : ℕ) → need_of l t ≤ 2 * t - 1
need_at_most None t = omega arith
need_at_most (Some n) t = omega arith

module _ {ed : Edition} {l : Limit} {w p a p' a' : List ℕ} {r : Answer} (e : Encoded ed l w p a r p' a') (room : 2 * word_limit - 1 ≤ length p) (room' : 2 * word_limit - 1 ≤ length a) where
  pub never_three : number_of r ≡ 3 → ⊥
  never_three h = let g = e.given.three.0 h in omega (arith, g, need_at_most l (length (trimmed w)), trimmed_length w)

  pub never_four : number_of r ≡ 4 → ⊥
  never_four h = let g = e.given.four.0 h in omega (arith, g, need_at_most l (length (trimmed w)), trimmed_length w)
