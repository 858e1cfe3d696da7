-- `header::known_at` meets its contract.
use mathlib.Core.Path.{sym}
use lib.ListN.{drop}
use Rattle.header.specs.Head.{known}
use Rattle.fields.proofs.Told.{passed, value_kept, value_refused, value_passed}
use Rattle.header.proofs.known_at.Goals as goal

pub returns-in_err-found : goal.returns-in_err-found
returns-in_err-found c =
    let a = c.args in
    passed _ c.from_residual.ensures.1 (value_passed (known a.least a.most) (drop a.at a.s.now) a.at _ (sym c.in_err-found.ensures))

pub returns-in-None : goal.returns-in-None
returns-in-None c =
    let a = c.args in
    value_kept (known a.least a.most) (drop a.at a.s.now) a.at _ (sym c.in_ok-found.ensures) (sym c.in-None.ensures)

pub returns-in-Some : goal.returns-in-Some
returns-in-Some c =
    let a = c.args in
    value_refused (known a.least a.most) (drop a.at a.s.now) a.at _ _ (sym c.in_ok-found.ensures) (sym c.in-Some.ensures)
