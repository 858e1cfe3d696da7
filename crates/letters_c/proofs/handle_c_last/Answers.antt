-- `letters_c::handle_c_last` meets its contract: at each return the tests on the way lead the tree there.
use Rattle.rules.specs.Told.{text_of}
use Rattle.rules.specs.Cond.{holds}
use Rattle.rules.proofs.Tree.{said, says, texts, tells}
use Rattle.letters_c.specs.Trees.{tree_c_last}
use Rattle.letters_c.proofs.handle_c_last.Goals as goal

pub returns-then-ahead : goal.returns-then-ahead
unfolding holds text_of tree_c_last
returns-then-ahead c = said (search (says, texts, tells) depth 14)

pub returns-else-ahead : goal.returns-else-ahead
unfolding holds text_of tree_c_last
returns-else-ahead c = said (search (says, texts, tells) depth 14)

pub returns-else-text-ne0 : goal.returns-else-text-ne0
unfolding holds text_of tree_c_last
returns-else-text-ne0 c = said (search (says, tells) depth 14)
