-- `views::front` meets its contract: a text has a number other than 0.
use Rattle.windows.proofs.Facts.{seen}
use Rattle.views.proofs.front.Goals as goal

pub returns : goal.returns
returns c = rw c.text_front.ensures (seen _ _ _ _)
