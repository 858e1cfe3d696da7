-- `views::ahead` meets its contract: a text has a number other than 0.
use Rattle.windows.proofs.Facts.{seen}
use Rattle.views.proofs.ahead.Goals as goal

pub returns : goal.returns
returns c = rw c.text_ahead.ensures (seen _ _ _ _)
