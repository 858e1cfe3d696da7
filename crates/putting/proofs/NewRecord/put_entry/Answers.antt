-- `putting::NewRecord::put_entry` meets its contract.
use Prim.Native.Nat.{ℕ}
use mathlib.Core.Path.{ap}
use native.Mathlib.Omega.{arith}
use lib.ListN.{length, length-append}
use Rattle.fields.specs.Field.{number}
use Rattle.fields.proofs.Put.{put_then, put_length}
use Rattle.entry.specs.Entry.{record_bytes}
use Rattle.putting.specs.New.{new_record}
use Rattle.putting.proofs.Laid.{entry_bare, entry_kind, put_as}
use Rattle.putting.proofs.NewRecord.put_entry.Goals as goal

pub put_record-requires : goal.put_record-requires
put_record-requires c = (c.requires.0, omega (arith, c.requires.1, ap length (entry_bare c.args.format c.args.self c.if-format-eq1.true)))

pub returns-then-format-eq1 : goal.returns-then-format-eq1
returns-then-format-eq1 c = put_as (entry_bare c.args.format c.args.self c.if-format-eq1.true) c.put_record.ensures

pub put_number-body-requires : goal.put_number-body-requires
put_number-body-requires c =
    let v = c.args.self in
    (omega (arith, c.from.ensures), omega (arith, c.requires.1, ap (λ (n : ℕ). length (number n)) c.from.ensures, ap length (entry_kind c.args.format v c.if-format-eq1.false), length-append (number 1) (record_bytes (new_record v))))

pub put_record-requires-2 : goal.put_record-requires-2
put_record-requires-2 c =
    let v = c.args.self in
    let p = rw c.from.ensures at c.put_number-body.ensures in
    (c.requires.0, omega (arith, c.requires.1, p.next, put_length p, ap length (entry_kind c.args.format v c.if-format-eq1.false), length-append (number 1) (record_bytes (new_record v))))

pub returns : goal.returns
returns c = put_as (entry_kind c.args.format c.args.self c.if-format-eq1.false) (put_then (rw c.from.ensures at c.put_number-body.ensures) c.put_record-2.ensures)
