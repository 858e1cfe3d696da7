-- `ascii::is_ascii` meets its contract, since what it has seen is what the bytes so far have.
use Rattle.std.proofs.Common.{◌≡◌, take}
use Rattle.ascii.specs.High.{any_high}
use Rattle.ascii.proofs.is_ascii.Given as goal

abbrev pub invariant-loop-b : goal.invariant-loop-b
invariant-loop-b l = l.high ≡ any_high (take l.b-index l.w)
