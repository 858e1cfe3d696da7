-- `spots::has_length` meets its contract: the capitals are as many as the bytes.
use Rattle.spots.proofs.Spots.{all_long}
use Rattle.spots.proofs.has_length.Goals as goal

pub returns : goal.returns
returns c = all_long _ _
