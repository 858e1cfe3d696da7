-- `fields::text_size` meets its contract.
use native.Mathlib.Omega.{arith}
use lib.ListN.{length}
use Rattle.fields.proofs.Put.{wide, four, text_takes}
use Rattle.fields.proofs.text_size.Goals as goal

pub overflow_add-result : goal.overflow_add-result
overflow_add-result c =
    let n = length c.args.t.now in omega (arith, wide n c.width.result c.width.ensures, four n, c.requires)

pub returns : goal.returns
returns c = text_takes c.args.t.now _ c.width.ensures
