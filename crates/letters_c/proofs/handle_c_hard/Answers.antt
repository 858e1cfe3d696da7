-- `letters_c::handle_c_hard` meets its contract: at each return the tests on the way lead the tree there.
use Rattle.rules.specs.Cond.{holds}
use Rattle.rules.specs.Told.{text_of}
use Rattle.rules.proofs.Tree.{said, says, texts, tells}
use Rattle.letters_c.specs.Trees.{tree_c_hard}
use Rattle.letters_c.proofs.handle_c_hard.Goals as goal

pub returns-then-text-ne0 : goal.returns-then-text-ne0
unfolding holds text_of tree_c_hard
returns-then-text-ne0 c = said (search (says, texts, tells) depth 14)

pub returns-then-is_hard : goal.returns-then-is_hard
unfolding holds text_of tree_c_hard
returns-then-is_hard c = said (search (says, texts, tells) depth 14)

pub returns-else-is_hard : goal.returns-else-is_hard
unfolding holds text_of tree_c_hard
returns-else-is_hard c = said (search (says, tells) depth 14)
