-- `keys::drain` ends, since with room for a line each feed passes a byte.
use Rattle.std.proofs.Common.{length}
use Rattle.keys.proofs.drain.Given as goal

abbrev pub decreases-loop-rest : goal.decreases-loop-rest
decreases-loop-rest l = length l.rest
