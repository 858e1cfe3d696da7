-- `entry::codes_at` meets its contract.
use mathlib.Core.Path.{sym}
use Rattle.fields.proofs.Told.{passed}
use Rattle.entry.proofs.Told.{both_codes, second_code, first_code}
use Rattle.entry.proofs.codes_at.Goals as goal

pub returns-in_err-primary : goal.returns-in_err-primary
returns-in_err-primary c =
    let a = c.args in
    passed _ c.from_residual.ensures.1 (first_code a.s.now a.at _ (sym c.in_err-primary.ensures))

pub returns-in_err-alternate : goal.returns-in_err-alternate
returns-in_err-alternate c =
    let a = c.args in
    passed _ c.from_residual-in_err-alternate.ensures.1 (second_code a.s.now a.at _ (sym c.in_ok-primary.ensures) _ (sym c.in_err-alternate.ensures))

pub returns : goal.returns
returns c =
    let a = c.args in
    both_codes a.s.now a.at _ (sym c.in_ok-primary.ensures) _ (sym c.in_ok-alternate.ensures)
