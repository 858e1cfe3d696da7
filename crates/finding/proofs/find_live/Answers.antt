-- `finding::find_live` meets its contract. The invariant is `Seeking`, proofs/Seeking.antt.
use mathlib.Core.Path.{sym, ◌∙◌}
use native.Mathlib.Omega.{arith}
use Rattle.finding.proofs.Seeking.{seek_start, seek_none, seek_never, passing, seek_hit, seek_on}
use Rattle.finding.proofs.find_live.Goals as goal

pub loop-cursor-init : goal.loop-cursor-init
loop-cursor-init c = seek_start c.args.s.now c.args.format c.args.station c.args.from c.requires

pub returns-in_err-record : goal.returns-in_err-record
returns-in_err-record c =
    let a = c.args in
    seek_never a.s.now a.format a.station a.from c.loop-cursor.cursor c.loop-cursor.invariant c.loop-cursor-test.true _ (sym c.in_err-record.ensures)

pub returns-then-is_meant : goal.returns-then-is_meant
returns-then-is_meant c =
    let a = c.args in
    seek_hit a.s.now a.format a.station a.from c.loop-cursor.cursor c.loop-cursor.invariant c.loop-cursor-test.true _ (sym c.in_ok-record.ensures) (sym c.is_meant.ensures ∙ c.if-is_meant.true)

pub loop-cursor-smaller : goal.loop-cursor-smaller
loop-cursor-smaller c =
    let a = c.args in
    let t = passing a.s.now a.format a.station a.from c.loop-cursor.cursor c.loop-cursor.invariant c.loop-cursor-test.true _ (sym c.in_ok-record.ensures) in
    omega (arith, t.rises, t.within)

pub loop-cursor-preserved : goal.loop-cursor-preserved
loop-cursor-preserved c =
    let a = c.args in
    seek_on a.s.now a.format a.station a.from c.loop-cursor.cursor c.loop-cursor.invariant c.loop-cursor-test.true _ (sym c.in_ok-record.ensures) (sym c.is_meant.ensures ∙ c.if-is_meant.false)

pub returns : goal.returns
returns c =
    let a = c.args in
    seek_none a.s.now a.format a.station a.from c.loop-cursor.cursor c.loop-cursor.invariant c.loop-cursor-test.false
