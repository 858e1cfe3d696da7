-- `walk::walk` meets its contract. The invariant, `Going`, says that the bytes written and those that the definition has
-- still to come from here on are the code; the measure is what is left of the word.
use Prim.Native.Nat.{◌-◌}
use lib.ListN.{length}
use Rattle.walk.proofs.Told.{edition_if}
use Rattle.walk.proofs.Turn.{Going}
use Rattle.walk.proofs.walk.Given as goal

abbrev pub invariant-loop-at : goal.invariant-loop-at
invariant-loop-at l = Going (edition_if l.second) l.w l.initial.p l.initial.a l.p l.a l.limit l.at l.t

abbrev pub decreases-loop-at : goal.decreases-loop-at
decreases-loop-at l = length l.w - l.at
