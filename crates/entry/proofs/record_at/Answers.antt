-- `entry::record_at` meets its contract.
use mathlib.Core.Path.{sym, ◌∙◌}
use Rattle.fields.proofs.Told.{passed}
use Rattle.entry.proofs.Records.{kind_body, kind_fault}
use Rattle.entry.proofs.record_at.Goals as goal

pub returns-in_err-kind : goal.returns-in_err-kind
returns-in_err-kind c =
    let a = c.args in
    passed _ c.from_residual.ensures.1 (kind_fault a.format a.floor a.s.now a.at _ (sym c.in_err-kind.ensures))

pub returns : goal.returns
returns c =
    let a = c.args in
    c.body_at.ensures ∙ kind_body a.format a.floor a.s.now a.at _ (sym c.in_ok-kind.ensures)
