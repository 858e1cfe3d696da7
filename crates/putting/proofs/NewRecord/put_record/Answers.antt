-- `putting::NewRecord::put_record` meets its contract.
use native.Mathlib.Omega.{arith}
use Rattle.fields.proofs.Put.{put_length}
use Rattle.putting.proofs.Laid.{record_length, record_put}
use Rattle.putting.proofs.NewRecord.put_record.Goals as goal

pub put_number-name-requires : goal.put_number-name-requires
put_number-name-requires c = (c.requires.0.station, omega (arith, c.requires.1, record_length c.args.self))

pub put_text-primary-requires : goal.put_text-primary-requires
put_text-primary-requires c =
    (c.requires.0.name, omega (arith, c.requires.1, record_length c.args.self, c.put_number-name.ensures.next, put_length c.put_number-name.ensures))

pub put_text-alternate-requires : goal.put_text-alternate-requires
put_text-alternate-requires c =
    (c.requires.0.primary, omega (arith, c.requires.1, record_length c.args.self, c.put_number-name.ensures.next, put_length c.put_number-name.ensures, c.put_text-primary.ensures.next, put_length c.put_text-primary.ensures))

pub put_text-requires : goal.put_text-requires
put_text-requires c =
    (c.requires.0.alternate, omega (arith, c.requires.1, record_length c.args.self, c.put_number-name.ensures.next, put_length c.put_number-name.ensures, c.put_text-primary.ensures.next, put_length c.put_text-primary.ensures, c.put_text-alternate.ensures.next, put_length c.put_text-alternate.ensures))

pub returns : goal.returns
returns c = record_put c.args.self c.put_number-name.ensures c.put_text-primary.ensures c.put_text-alternate.ensures c.put_text.ensures
