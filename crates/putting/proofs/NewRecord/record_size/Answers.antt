-- `putting::NewRecord::record_size` meets its contract: no record comes near the largest `usize`.
use native.Mathlib.Omega.{arith}
use Rattle.fields.proofs.Put.{wide}
use Rattle.putting.proofs.Laid.{record_length, record_small}
use Rattle.putting.proofs.NewRecord.record_size.Goals as goal

pub overflow_add-front : goal.overflow_add-front
overflow_add-front c =
    let v = c.args.self in
    omega (arith, wide v.station c.width_of.result c.width_of.ensures, c.text_size.ensures, record_length v, record_small v c.requires)

pub overflow_add-result : goal.overflow_add-result
overflow_add-result c =
    let v = c.args.self in
    omega (arith, c.text_size-2.ensures, c.text_size-3.ensures, record_length v, record_small v c.requires)

pub overflow_add-result-2 : goal.overflow_add-result-2
overflow_add-result-2 c =
    let v = c.args.self in
    omega (arith, wide v.station c.width_of.result c.width_of.ensures, c.text_size.ensures, c.text_size-2.ensures, c.text_size-3.ensures, record_length v, record_small v c.requires)

pub returns : goal.returns
returns c =
    let v = c.args.self in
    omega (arith, wide v.station c.width_of.result c.width_of.ensures, c.text_size.ensures, c.text_size-2.ensures, c.text_size-3.ensures, record_length v)
