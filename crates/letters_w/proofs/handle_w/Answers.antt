-- `letters_w::handle_w` meets its contract: at each return the tests on the way lead the tree there.
use Rattle.rules.specs.Cond.{holds}
use Rattle.rules.specs.Told.{text_of}
use Rattle.rules.proofs.Tree.{spoken, says, texts, tells}
use Rattle.letters_w.specs.Trees.{tree_w}
use Rattle.letters_w.proofs.Ways.{ways_w}
use Rattle.letters_w.proofs.handle_w.Goals as goal

pub returns-then-ahead : goal.returns-then-ahead
unfolding holds text_of tree_w
returns-then-ahead c = spoken ways_w (search (says, texts) depth 14)

pub returns-then-is_first_w : goal.returns-then-is_first_w
unfolding holds text_of tree_w
returns-then-is_first_w c = spoken ways_w (search says depth 14)

pub returns-then-is_arnow : goal.returns-then-is_arnow
unfolding holds text_of tree_w
returns-then-is_arnow c = spoken ways_w (search (says, texts) depth 14)

pub returns-then-text-ne0 : goal.returns-then-text-ne0
unfolding holds text_of tree_w
returns-then-text-ne0 c = spoken ways_w (search (says, texts, tells) depth 14)

pub returns-else-text-ne0 : goal.returns-else-text-ne0
unfolding holds text_of tree_w
returns-else-text-ne0 c = spoken ways_w (search (says, tells) depth 14)
