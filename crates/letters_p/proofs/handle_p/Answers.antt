-- `letters_p::handle_p` meets its contract: at each return the tests on the way lead the tree there.
use Rattle.rules.specs.Told.{text_of}
use Rattle.rules.specs.Cond.{holds}
use Rattle.rules.proofs.Tree.{spoken, says, tells}
use Rattle.letters_p.specs.Trees.{tree_p}
use Rattle.letters_p.proofs.Ways.{ways_p}
use Rattle.letters_p.proofs.handle_p.Goals as goal

pub returns-then-char_ahead : goal.returns-then-char_ahead
unfolding holds text_of tree_p
returns-then-char_ahead c = spoken ways_p (search says depth 14)

pub returns-else-char_ahead : goal.returns-else-char_ahead
unfolding holds text_of tree_p
returns-else-char_ahead c = spoken ways_p (search (says, tells) depth 14)
