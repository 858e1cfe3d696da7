-- `closing_up::close_up` meets its contract. The invariant is `Upto`, proofs/Up.antt.
use Prim.Native.Nat.{◌-◌}
use Rattle.closing_up.proofs.Up.{Upto}
use Rattle.closing_up.proofs.close_up.Given as goal

abbrev pub invariant-loop-cursor : goal.invariant-loop-cursor
invariant-loop-cursor l = Upto l.initial.room l.len l.format l.from l.room l.cursor l.to

abbrev pub decreases-loop-cursor : goal.decreases-loop-cursor
decreases-loop-cursor l = l.len - l.cursor.at
