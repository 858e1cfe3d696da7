-- `equality::code_in` meets its contract, since the room is enough for any code, so that 3 and 4 are never answered.
use mathlib.Core.Path.{refl}
use native.Mathlib.Omega.{arith}
use Rattle.demands.proofs.Part.{part_is}
use Rattle.equality.proofs.Asked.{taken, refuses}
use Rattle.equality.proofs.code_in.Goals as goal

pub returns-in-Ok : goal.returns-in-Ok
returns-in-Ok c = (taken c.in-Ok.ensures, part_is c.new.ensures c.in-Ok.ensures c.args.choice c.in-Ok.coded refl c.chosen.ensures)

pub returns-in-Err : goal.returns-in-Err
returns-in-Err c = refuses c.args.which c.in-Err.refusal c.in-Err.ensures (omega arith) (omega arith)
