-- `putting::put_header` meets its contract.
use native.Mathlib.Omega.{arith}
use Rattle.fields.proofs.Put.{put_length}
use Rattle.putting.proofs.Laid.{header_length, header_put}
use Rattle.putting.proofs.put_header.Goals as goal

pub put_number-first-requires : goal.put_number-first-requires
put_number-first-requires c = (c.requires.0, omega (arith, c.requires.3, header_length c.args.header))

pub put_number-second-requires : goal.put_number-second-requires
put_number-second-requires c =
    (c.requires.1, omega (arith, c.requires.3, header_length c.args.header, c.put_number-first.ensures.next, put_length c.put_number-first.ensures))

pub put_number-requires : goal.put_number-requires
put_number-requires c =
    (c.requires.2, omega (arith, c.requires.3, header_length c.args.header, c.put_number-first.ensures.next, put_length c.put_number-first.ensures, c.put_number-second.ensures.next, put_length c.put_number-second.ensures))

pub returns : goal.returns
returns c = header_put c.args.header c.put_number-first.ensures c.put_number-second.ensures c.put_number.ensures
