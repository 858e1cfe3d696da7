-- `views::behind` meets its contract: a text has a number other than 0.
use Rattle.byte.specs.Text.{upper}
use Rattle.windows.specs.Window.{texts}
use Rattle.views.proofs.Views.{seen_back}
use Rattle.views.proofs.behind.Goals as goal

pub returns : goal.returns
returns c =
    let a = c.args in
    rw c.text_behind.ensures (seen_back (upper a.w.now) a.at a.k a.width (texts a.width a.list.now))
