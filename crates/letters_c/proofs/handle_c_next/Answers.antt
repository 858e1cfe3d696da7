-- `letters_c::handle_c_next` meets its contract: at each return the tests on the way lead the tree there.
use mathlib.Core.Path.{sym, ◌∙◌}
use Rattle.rules.specs.Told.{text_of}
use Rattle.rules.specs.Cond.{holds}
use Rattle.rules.proofs.Tree.{said, says, texts, tells}
use Rattle.letters_c.specs.Trees.{tree_c_next}
use Rattle.letters_c.proofs.handle_c_next.Goals as goal

pub handle_cc-requires : goal.handle_cc-requires
unfolding holds text_of tree_c_next
handle_cc-requires c = sym c.is_double.ensures ∙ c.if-is_double.true

pub returns-then-ahead : goal.returns-then-ahead
unfolding holds text_of tree_c_next
returns-then-ahead c = said (search (says, texts) depth 14)

pub returns-then-is_double : goal.returns-then-is_double
unfolding holds text_of tree_c_next
returns-then-is_double c = said (search says depth 14)

pub returns-then-text-ne0 : goal.returns-then-text-ne0
unfolding holds text_of tree_c_next
returns-then-text-ne0 c = said (search (says, texts, tells) depth 14)

pub returns-else-text-ne0 : goal.returns-else-text-ne0
unfolding holds text_of tree_c_next
returns-else-text-ne0 c = said (search (says, tells) depth 14)
