-- `spots::char_ahead` meets its contract.
use Rattle.std.proofs.Common.{rules}
use Rattle.spots.proofs.Spots.{byte_told}
use Rattle.spots.proofs.char_ahead.Goals as goal

pub returns : goal.returns
returns c = byte_told _ _ _ _ (λ h. search rules) c.passes_ahead.ensures.past
