-- `fields::put_text` meets its contract.
use native.Mathlib.Omega.{arith}
use Rattle.fields.proofs.Put.{put_length, text_length, text_put}
use Rattle.fields.proofs.put_text.Goals as goal

pub put_number-body-requires : goal.put_number-body-requires
put_number-body-requires c =
    let a = c.args in
    (omega (arith, c.requires.0), omega (arith, c.requires.1, text_length a.t.now))

pub copy_to-requires : goal.copy_to-requires
copy_to-requires c =
    let a = c.args in
    omega (arith, c.requires.1, text_length a.t.now, c.put_number-body.ensures.next, put_length c.put_number-body.ensures)

pub overflow_add-result : goal.overflow_add-result
overflow_add-result c =
    let a = c.args in
    omega (arith, c.requires.1, text_length a.t.now, c.put_number-body.ensures.next)

pub returns : goal.returns
returns c =
    let a = c.args in
    text_put a.out.now a.at a.t.now _ _ _ c.put_number-body.ensures c.copy_to.ensures
