-- `equality::equal` meets its contract: a refusal is the first word's or, where that is taken, the second's, and two codes are compared.
use Rattle.std.proofs.lemmas.Result.{err_from_is_err_and}
use Rattle.equality.proofs.Table.{first_refused, second_refused, both_compared}
use Rattle.equality.proofs.equal.Goals as goal

pub returns-in_err-first : goal.returns-in_err-first
returns-in_err-first c =
    let a = c.args in
    let p = err_from_is_err_and c.from_residual.result c.from_residual.ensures.1 in
    rw (p.1, p.2) (first_refused a.limit a.choice a.one.now a.two.now c.in_err-first.ensures)

pub returns-in_err-second : goal.returns-in_err-second
returns-in_err-second c =
    let a = c.args in
    let p = err_from_is_err_and c.from_residual-in_err-second.result c.from_residual-in_err-second.ensures.1 in
    rw (p.1, p.2) (second_refused a.limit a.choice a.one.now a.two.now c.in_ok-first.ensures.0 c.in_err-second.ensures)

pub returns : goal.returns
returns c =
    let a = c.args in
    let x = c.in_ok-first.ensures in
    let y = c.in_ok-second.ensures in
    both_compared a.limit a.choice a.one.now a.two.now x.0 y.0 x.1 y.1 c.same_bytes.ensures
