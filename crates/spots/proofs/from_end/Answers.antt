-- `spots::from_end` meets its contract.
use Rattle.spots.proofs.Spots.{no_end, at_end}
use Rattle.spots.proofs.from_end.Goals as goal

pub returns-then-w-k : goal.returns-then-w-k
returns-then-w-k c = no_end _ _ _ c.if-w-k.true

pub returns : goal.returns
returns c = at_end _ _ _ c.if-w-k.false
