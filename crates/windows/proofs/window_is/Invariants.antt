-- `windows::window_is` meets its contract. The loop's invariant: each byte passed is the text's.
use Prim.Native.Nat.{ℕ, ◌+◌, ◌<◌}
use mathlib.Core.Path.{◌≡◌}
use lib.ListN.{get_or}
use Rattle.byte.specs.Text.{up}
use Rattle.windows.proofs.window_is.Given as goal

abbrev pub invariant-loop-i : goal.invariant-loop-i
invariant-loop-i l = (k : ℕ) → k < l.i → up (get_or l.w (l.at + k) 0) ≡ get_or l.text k 0
