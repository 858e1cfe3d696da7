-- `letters_d::handle_d_before` meets its contract: at each return the tests on the way lead the tree there.
use Rattle.rules.specs.Cond.{holds}
use Rattle.rules.specs.Told.{text_of}
use Rattle.rules.proofs.Tree.{spoken, says, texts, tells}
use Rattle.letters_d.specs.Trees.{tree_d}
use Rattle.letters_d.proofs.Ways.{ways_d}
use Rattle.letters_d.proofs.handle_d_before.Goals as goal

pub returns-then-ahead-2 : goal.returns-then-ahead-2
unfolding holds text_of tree_d
returns-then-ahead-2 c = spoken ways_d (search (says, texts) depth 14)

pub returns-else-ahead-2 : goal.returns-else-ahead-2
unfolding holds text_of tree_d
returns-else-ahead-2 c = spoken ways_d (search (says, texts) depth 14)

pub returns-then-text-ne0 : goal.returns-then-text-ne0
unfolding holds text_of tree_d
returns-then-text-ne0 c = spoken ways_d (search (says, texts, tells) depth 14)

pub returns-else-text-ne0 : goal.returns-else-text-ne0
unfolding holds text_of tree_d
returns-else-text-ne0 c = spoken ways_d (search (says, tells) depth 14)
