-- `row_writer::put_rows` meets its contract. The invariant, `Going`, says that the rows written and those still to come from here on are
-- all.
use Prim.Native.Nat.{◌*◌}
use mathlib.Core.Path.{ap, ◌∙◌}
use native.Mathlib.Omega.{arith}
use lib.Seq.{sets}
use Rattle.row.specs.Numbers.{Row, numbers_of}
use Rattle.row_writer.specs.Written.{edition_if}
use Rattle.row_writer.proofs.Written.{going, inside, room_for, turned, all_written, over_is, over_few, fits_row, row_is}
use Rattle.row_writer.proofs.put_rows.Goals as goal

pub loop-k-init : goal.loop-k-init
loop-k-init c = rw c.start_of-at.ensures (going (edition_if c.args.second) c.args.t.now c.args.rows.now c.args.visits c.requires.1)

pub overflow_mul-k : goal.overflow_mul-k
overflow_mul-k c = omega (arith, c.requires.2, c.well_formed.1.1.1.0)

pub bounds-t-at : goal.bounds-t-at
bounds-t-at c = inside c.loop-k.invariant (omega arith)

pub put_row-requires : goal.put_row-requires
put_row-requires c =
    let within = inside c.loop-k.invariant (omega arith) in
    (room_for c.loop-k.invariant (omega arith) c.requires.2, fits_row _ c.args.t.now _ _ _ c.is_slavo_germanic-slavo.ensures c.visit_at-spoken.ensures within c.requires.0)

pub overflow_add-at : goal.overflow_add-at
overflow_add-at c = omega (arith, inside c.loop-k.invariant (omega arith), c.requires.0)

pub overflow_add-at-in-loop-k : goal.overflow_add-at-in-loop-k
overflow_add-at-in-loop-k c =
    let few = over_few _ c.args.t.now _ _ _ c.is_slavo_germanic-slavo.ensures c.visit_at-spoken.ensures in
    omega (arith, few, inside c.loop-k.invariant (omega arith), c.requires.0)

pub loop-k-preserved : goal.loop-k-preserved
loop-k-preserved c =
    let t = c.args.t.now in
    let m = c.is_slavo_germanic-slavo.ensures in
    turned c.loop-k.invariant (omega arith) _ (over_is _ t _ _ _ m c.visit_at-spoken.ensures) _
    (c.put_row.ensures ∙ ap (λ (r : Row). sets c.loop-k.rows (7 * c.loop-k.k) (numbers_of r)) (row_is _ t _ _ _ m c.visit_at-spoken.ensures _ c.capital.ensures))
    c.requires.2

pub returns : goal.returns
returns c = all_written c.loop-k.invariant (omega arith)
