-- `stations::put_records` is safe and ends, since each record moves the cursor on, and not past the end.
use Rattle.std.proofs.Common.{◌≤◌, ◌-◌, length}
use Rattle.stations.proofs.put_records.Given as goal

abbrev pub invariant-loop-record : goal.invariant-loop-record
invariant-loop-record l = (l.count ≤ l.cursor.at) × (l.closed ≤ l.count)

abbrev pub decreases-loop-record : goal.decreases-loop-record
decreases-loop-record l = length l.initial.s - l.cursor.at
