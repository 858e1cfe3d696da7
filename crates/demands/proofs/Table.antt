-- A refusal changes nothing.
use Prim.Native.Nat.{ℕ, ◌<◌}
use mathlib.Core.Path.{◌≡◌}
use mathlib.Core.List.{List}
use native.Mathlib.Omega.{arith}
use Rattle.terms.specs.declared.Edition.{Edition}
use Rattle.terms.specs.Limits.{Limit}
use Rattle.std.specs.Prelude.{Ok, Err}
use Rattle.encoder.specs.Encode.{Answer, number_of, left_by, Encoded}

-- a refusal changes neither buffer
left_refused : (r : Answer) (code : List ℕ) {buf buf' : List ℕ} → 0 < number_of r → buf' ≡ left_by r code buf → buf' ≡ buf
left_refused (Ok coded) code h e = absurd (omega arith)
left_refused (Err refusal) code h e = e

pub unchanged : {ed : Edition} {l : Limit} {w p a : List ℕ} {r : Answer} {p' a' : List ℕ} → Encoded ed l w p a r p' a' → 0 < number_of r → (p' ≡ p) × (a' ≡ a)
unchanged {r = r} x h = (left_refused r _ h x.primary, left_refused r _ h x.alternate)
