-- `copying::copy_to` meets its contract. The invariant: storing what is left gives what storing all of `src` gives.
use Prim.Native.Nat.{◌+◌}
use mathlib.Core.Path.{◌≡◌}
use lib.Seq.{sets}
use lib.ListN.{length, drop}
use Rattle.copying.proofs.copy_to.Given as goal

abbrev pub invariant-loop-i : goal.invariant-loop-i
invariant-loop-i l = (length l.out ≡ length l.initial.out) × (sets l.out (l.at + l.i) (drop l.i l.src) ≡ sets l.initial.out l.at l.src)
