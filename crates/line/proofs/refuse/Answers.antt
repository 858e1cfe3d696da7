-- `line::refuse` meets its contract: three bytes are stored at the front.
use Prim.Native.Nat.{◌+◌}
use Rattle.line.proofs.Place.{three}
use Rattle.line.proofs.refuse.Goals as goal

pub returns : goal.returns
returns c = three c.args.line.now 33 (48 + c.args.number) 10 c.requires.0
