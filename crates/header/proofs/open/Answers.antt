-- `header::open` meets its contract.
use mathlib.Core.Path.{sym}
use Rattle.fields.proofs.Told.{passed}
use Rattle.header.specs.Head.{formats}
use Rattle.header.proofs.Opening.{opens, opens_third, opens_second, opens_first}
use Rattle.header.proofs.open.Goals as goal

pub returns-in_err-format : goal.returns-in_err-format
returns-in_err-format c =
    let a = c.args in
    passed _ c.from_residual.ensures.1 (opens_first (formats a.least) a.s.now _ (sym c.in_err-format.ensures))

pub returns-in_err-edition : goal.returns-in_err-edition
returns-in_err-edition c =
    let a = c.args in
    passed _ c.from_residual-in_err-edition.ensures.1 (opens_second (formats a.least) a.s.now _ (sym c.in_ok-format.ensures) _ (sym c.in_err-edition.ensures))

pub returns-in_err-cut : goal.returns-in_err-cut
returns-in_err-cut c =
    let a = c.args in
    passed _ c.from_residual-in_err-cut.ensures.1 (opens_third (formats a.least) a.s.now _ (sym c.in_ok-format.ensures) _ (sym c.in_ok-edition.ensures) _ (sym c.in_err-cut.ensures))

pub returns : goal.returns
returns c =
    let a = c.args in
    opens (formats a.least) a.s.now _ (sym c.in_ok-format.ensures) _ (sym c.in_ok-edition.ensures) _ (sym c.in_ok-cut.ensures)
