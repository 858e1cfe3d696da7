-- `spots::vowel_ahead` meets its contract.
use Rattle.std.proofs.Common.{rules}
use Rattle.spots.proofs.Spots.{vowel_told}
use Rattle.spots.proofs.vowel_ahead.Goals as goal

pub returns : goal.returns
returns c = vowel_told _ _ _ (λ h. search rules) c.passes_ahead.ensures.past
