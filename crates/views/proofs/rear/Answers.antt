-- `views::rear` meets its contract: the end of the word is its length.
use Rattle.byte.proofs.Case.{length_upper}
use Rattle.views.proofs.rear.Goals as goal

pub returns : goal.returns
returns c = simp length_upper c.behind.ensures
