-- `book::read` meets its contract.
use mathlib.Core.Path.{sym}
use Rattle.fields.proofs.Told.{passed}
use Rattle.header.specs.Head.{formats}
use Rattle.book.proofs.Opening.{reads, reads_bad, unopened}
use Rattle.book.proofs.read.Goals as goal

pub returns-in_err-opened : goal.returns-in_err-opened
returns-in_err-opened c =
    let a = c.args in
    passed _ c.from_residual.ensures.1 (unopened (formats a.least) a.s.now _ (sym c.in_err-opened.ensures))

pub returns-in_err-measure : goal.returns-in_err-measure
returns-in_err-measure c =
    let a = c.args in
    passed _ c.from_residual-in_err-measure.ensures.1 (reads_bad (formats a.least) a.s.now _ (sym c.in_ok-opened.ensures) _ (sym c.in_err-measure.ensures))

pub returns : goal.returns
returns c =
    let a = c.args in
    reads (formats a.least) a.s.now _ (sym c.in_ok-opened.ensures) _ (sym c.in_ok-measure.ensures)
