-- `fields::bytes_at` meets its contract.
use Rattle.fields.proofs.Told.{bytes_there, bytes_cut}
use Rattle.fields.proofs.bytes_at.Goals as goal

pub returns-then-left_from-len : goal.returns-then-left_from-len
returns-then-left_from-len c =
    let a = c.args in
    bytes_cut a.s.now a.start a.len _ c.left_from.ensures c.if-left_from-len.true

pub returns : goal.returns
returns c =
    let a = c.args in
    bytes_there a.s.now a.start a.len _ c.left_from.ensures c.if-left_from-len.false
