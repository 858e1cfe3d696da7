-- `finding::find_live` meets its contract. The invariant is `Seeking`, proofs/Seeking.antt.
use Prim.Native.Nat.{◌-◌}
use lib.ListN.{length}
use Rattle.finding.proofs.Seeking.{Seeking}
use Rattle.finding.proofs.find_live.Given as goal

abbrev pub invariant-loop-cursor : goal.invariant-loop-cursor
invariant-loop-cursor l = Seeking l.s l.format l.station l.from l.cursor

abbrev pub decreases-loop-cursor : goal.decreases-loop-cursor
decreases-loop-cursor l = length l.s - l.cursor.at
