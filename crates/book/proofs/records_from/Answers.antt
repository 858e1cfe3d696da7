-- `book::records_from` meets its contract. The invariant: what is left makes the whole answer; a record takes a byte at least.
use mathlib.Core.Path.{refl, sym, ap, ◌∙◌}
use native.Mathlib.Omega.{arith}
use Rattle.book.specs.declared.Measure.{Measure}
use Rattle.fields.proofs.Told.{passed}
use Rattle.entry.proofs.Records.{same_live, other_kind}
use Rattle.book.proofs.Measured.{turn, stopped, ended, counted_live, counted_closed}
use Rattle.book.proofs.records_from.Goals as goal
use Rattle.book.proofs.records_from.Goals.{then-eq, else-eq}

pub returns-in_err-record : goal.returns-in_err-record
returns-in_err-record c =
    let a = c.args in
    let l = c.loop-c in
    passed _ c.from_residual.ensures.1 (stopped a.format a.s.now l.c.at l.c.floor c.loop-c-test.true l.all _ (sym c.in_err-record.ensures) ∙ l.invariant.4)

pub loop-c-smaller : goal.loop-c-smaller
loop-c-smaller c =
    let a = c.args in
    let l = c.loop-c in
    let t = turn a.format a.s.now l.c.at l.c.floor c.loop-c-test.true l.all _ (sym c.in_ok-record.ensures) in
    omega (arith, t.rises, t.within)

pub loop-c-preserved : goal.loop-c-preserved
loop-c-preserved c =
    let a = c.args in
    let l = c.loop-c in
    let h = c.loop-c-test.true in
    let t = turn a.format a.s.now l.c.at l.c.floor h l.all _ (sym c.in_ok-record.ensures) in
    elim c.if-eq.branch [
      | then-eq w ↦
          let n = ap (λ (m : Measure). m.count) w.all-is in
          let v = ap (λ (m : Measure). m.live) w.all-is in
          let z = ap (λ (m : Measure). m.size) w.all-is in
          (omega (arith, t.rises, l.invariant.0, n), omega (arith, t.rises, l.invariant.1, v), omega (arith, t.rises, l.invariant.2, z), refl, counted_live a.format a.s.now l.c.at l.c.floor h l.all _ _ t _ (same_live _ w.if-eq.ensures) w.all-is ∙ l.invariant.4)
      | else-eq w ↦
          let n = ap (λ (m : Measure). m.count) w.all-is in
          let v = ap (λ (m : Measure). m.live) w.all-is in
          let z = ap (λ (m : Measure). m.size) w.all-is in
          (omega (arith, t.rises, l.invariant.0, n), omega (arith, t.rises, l.invariant.1, v), omega (arith, t.rises, l.invariant.2, z), refl, counted_closed a.format a.s.now l.c.at l.c.floor h l.all _ _ t _ (other_kind _ w.if-eq.ensures) w.all-is ∙ l.invariant.4)
    ]

pub returns : goal.returns
returns c =
    let a = c.args in
    let l = c.loop-c in
    ended a.format a.s.now l.c.at l.c.floor l.all l.invariant.3 c.loop-c-test.false ∙ l.invariant.4
