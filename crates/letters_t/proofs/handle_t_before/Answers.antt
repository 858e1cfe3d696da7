-- `letters_t::handle_t_before` meets its contract: at each return the tests on the way lead the tree there.
use Rattle.rules.specs.Told.{text_of}
use Rattle.rules.specs.Cond.{holds}
use Rattle.rules.proofs.Tree.{spoken, says, texts, tells}
use Rattle.letters_t.specs.Trees.{tree_t}
use Rattle.letters_t.proofs.Ways.{ways_t}
use Rattle.letters_t.proofs.handle_t_before.Goals as goal

pub returns-then-text-ne0 : goal.returns-then-text-ne0
unfolding holds text_of tree_t
returns-then-text-ne0 c = spoken ways_t (search (says, texts, tells) depth 14)

pub returns-then-is_thomas : goal.returns-then-is_thomas
unfolding holds text_of tree_t
returns-then-is_thomas c = spoken ways_t (search (says, texts, tells) depth 14)

pub returns-else-is_thomas : goal.returns-else-is_thomas
unfolding holds text_of tree_t
returns-else-is_thomas c = spoken ways_t (search (says, texts, tells) depth 14)

pub returns-else-is_th : goal.returns-else-is_th
unfolding holds text_of tree_t
returns-else-is_th c = spoken ways_t (search (says, tells) depth 14)
