-- `closing_up::close_up` meets its contract. The invariant is `Upto`, proofs/Up.antt.
use mathlib.Core.Path.{sym, ◌∙◌}
use native.Mathlib.Omega.{arith}
use Rattle.fields.proofs.Law.{bytes}
use Rattle.entry.proofs.Records.{same_live, other_kind}
use Rattle.closing_up.proofs.Up.{upto_end, upto_never, turn, upto_passed, upto_kept}
use Rattle.closing_up.proofs.close_up.Goals as goal
use Rattle.closing_up.proofs.close_up.Goals.{then-eq, else-eq}

pub returns-in_default : goal.returns-in_default
returns-in_default c =
    let a = c.args in
    let l = c.loop-cursor in
    upto_never a.room.now a.len a.format a.from c.requires.1 l.room l.cursor l.to l.invariant c.loop-cursor-test.true _ (sym c.record_at.ensures ∙ c.in_default.is)

pub copy_down-requires : goal.copy_down-requires
copy_down-requires c =
    let a = c.args in
    let l = c.loop-cursor in
    let t = turn a.room.now a.len a.format a.from c.requires.1 l.room l.cursor l.to l.invariant c.loop-cursor-test.true _ (sym c.in-Ok.ensures) in
    (l.invariant.low, omega (arith, t.rises, t.within, l.invariant.long, c.requires.1))

pub overflow_add-to : goal.overflow_add-to
overflow_add-to c =
    let a = c.args in
    let l = c.loop-cursor in
    let t = turn a.room.now a.len a.format a.from c.requires.1 l.room l.cursor l.to l.invariant c.loop-cursor-test.true _ (sym c.in-Ok.ensures) in
    omega (arith, t.rises, t.within, l.invariant.low, c.ranges.len.fits)

pub loop-cursor-smaller : goal.loop-cursor-smaller
loop-cursor-smaller c =
    let a = c.args in
    let l = c.loop-cursor in
    let t = turn a.room.now a.len a.format a.from c.requires.1 l.room l.cursor l.to l.invariant c.loop-cursor-test.true _ (sym c.in-Ok.ensures) in
    omega (arith, t.rises, t.within)

pub loop-cursor-preserved : goal.loop-cursor-preserved
loop-cursor-preserved c =
    let a = c.args in
    let l = c.loop-cursor in
    let h = c.loop-cursor-test.true in
    let t = turn a.room.now a.len a.format a.from c.requires.1 l.room l.cursor l.to l.invariant h _ (sym c.in-Ok.ensures) in
    elim c.if-eq.branch [
      | then-eq w ↦ upto_kept a.room.now a.len a.format a.from c.requires.1 l.room l.cursor l.to l.invariant h _ t _ _ (bytes a.room.now (λ i. omega (arith, c.slice_known-1.given i))) (same_live _ w.if-eq.ensures) (w.room-is ∙ w.copy_down.ensures) w.to-is
      | else-eq w ↦ upto_passed a.room.now a.len a.format a.from c.requires.1 l.room l.cursor l.to l.invariant h _ t _ _ (other_kind _ w.if-eq.ensures) w.room-is w.to-is
    ]

pub returns : goal.returns
returns c =
    let a = c.args in
    let l = c.loop-cursor in
    upto_end a.room.now a.len a.format a.from c.requires.1 l.room l.cursor l.to l.invariant c.loop-cursor-test.false
