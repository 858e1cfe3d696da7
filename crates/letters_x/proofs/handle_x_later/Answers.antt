-- `letters_x::handle_x_later` meets its contract: at each return the tests on the way lead the tree there.
use Rattle.rules.specs.Cond.{holds}
use Rattle.rules.specs.Told.{text_of}
use Rattle.rules.proofs.Tree.{said, says, tells}
use Rattle.letters_x.specs.Trees.{tree_x_later}
use Rattle.letters_x.proofs.handle_x_later.Goals as goal

pub returns-then-is_sounded : goal.returns-then-is_sounded
unfolding holds text_of tree_x_later
returns-then-is_sounded c = said (search (says, tells) depth 14)

pub returns-else-is_sounded : goal.returns-else-is_sounded
unfolding holds text_of tree_x_later
returns-else-is_sounded c = said (search (says, tells) depth 14)
