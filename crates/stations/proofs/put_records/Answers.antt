-- `stations::put_records` is safe and ends, since each record moves the cursor on, and not past the end.
use native.Mathlib.Omega.{arith}
use Rattle.stations.proofs.Moved.{moved}
use Rattle.stations.proofs.put_records.Goals as goal

pub loop-record-smaller : goal.loop-record-smaller
loop-record-smaller c =
    let m = moved c.args.s.now c.args.header.format c.args.header.edition c.loop-record.cursor c.in-Ok-Some.record cc in
    omega (arith, m.0, m.1)

pub loop-record-preserved : goal.loop-record-preserved
loop-record-preserved c =
    let m = moved c.args.s.now c.args.header.format c.args.header.edition c.loop-record.cursor c.in-Ok-Some.record cc in
    (omega (arith, m.0, c.loop-record.invariant.0), grind (arith, c.loop-record.invariant.1))
