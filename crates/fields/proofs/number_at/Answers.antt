-- `fields::number_at` meets its contract.
use native.Mathlib.Omega.{arith}
use Rattle.fields.proofs.Told.{passed, found_number, found_fits, found_fault}
use Rattle.fields.proofs.number_at.Goals as goal

pub returns-in_err-found : goal.returns-in_err-found
returns-in_err-found c =
    let a = c.args in
    passed _ c.from_residual.ensures.1 (found_fault a.s.now a.at _ c.in_err-found.ensures)

pub overflow_add-result : goal.overflow_add-result
overflow_add-result c =
    let a = c.args in
    omega (arith, found_fits a.s.now a.at _ c.in_ok-found.ensures)

pub returns : goal.returns
returns c = found_number c.args.s.now c.args.at _ c.in_ok-found.ensures
