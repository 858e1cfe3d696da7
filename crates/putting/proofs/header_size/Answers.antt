-- `putting::header_size` meets its contract: a number takes at most four bytes.
use native.Mathlib.Omega.{arith}
use Rattle.fields.proofs.Put.{wide, four}
use Rattle.putting.proofs.Laid.{header_length}
use Rattle.putting.proofs.header_size.Goals as goal

pub overflow_add-result : goal.overflow_add-result
overflow_add-result c =
    let h = c.args.header in
    omega (arith, wide h.format c.width.result c.width.ensures, four h.format, wide h.edition c.width-2.result c.width-2.ensures, four h.edition)

pub overflow_add-result-2 : goal.overflow_add-result-2
overflow_add-result-2 c =
    let h = c.args.header in
    omega (arith, wide h.format c.width.result c.width.ensures, four h.format, wide h.edition c.width-2.result c.width-2.ensures, four h.edition, wide h.cut c.width-3.result c.width-3.ensures, four h.cut)

pub returns : goal.returns
returns c =
    let h = c.args.header in
    omega (arith, header_length h, wide h.format c.width.result c.width.ensures, wide h.edition c.width-2.result c.width-2.ensures, wide h.cut c.width-3.result c.width-3.ensures)
