-- `keying::new_record` meets its contract: the encoder tests the name, and its buffers are long enough.
use mathlib.Core.Path.{refl}
use native.Mathlib.Omega.{arith}
use Rattle.std.proofs.lemmas.Result.{err_from_is_err_and}
use Rattle.keying.proofs.Named.{name_refused, keys}
use Rattle.keying.proofs.new_record.Goals as goal

pub returns-in_err-coded : goal.returns-in_err-coded
returns-in_err-coded c =
    let p = err_from_is_err_and c.from_residual.result c.from_residual.ensures.1 in
    rw (p.1, p.2) (name_refused c.encode.ensures (omega arith) (omega arith) _ c.in_err-coded.was)

pub returns : goal.returns
returns c =
    keys c.args.header c.in_edition.ensures c.edition_of-edition.ensures c.limit_of-limit.ensures c.encode.ensures _ c.in_ok-coded.was (record { station = c.args.station; name = c.args.name; primary = c.chosen.result; alternate = c.chosen-2.result }) refl c.chosen.ensures c.chosen-2.ensures
