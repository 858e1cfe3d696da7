-- `letters_s_next::handle_s_next` meets its contract: at each return the tests on the way lead the tree there.
use mathlib.Core.Path.{sym, ◌∙◌}
use Rattle.rules.specs.Cond.{holds}
use Rattle.rules.proofs.Tree.{said, says, texts}
use Rattle.letters_s_next.specs.Trees.{tree_s_next}
use Rattle.letters_s_next.proofs.handle_s_next.Goals as goal

pub handle_sc-requires : goal.handle_sc-requires
unfolding holds tree_s_next
handle_sc-requires c = sym c.ahead.ensures ∙ c.if-ahead.true

pub returns-then-is_smith : goal.returns-then-is_smith
unfolding holds tree_s_next
returns-then-is_smith c = said (search (says, texts) depth 14)

pub returns-then-ahead : goal.returns-then-ahead
unfolding holds tree_s_next
returns-then-ahead c = said (search says depth 14)

pub returns-else-ahead : goal.returns-else-ahead
unfolding holds tree_s_next
returns-else-ahead c = said (search says depth 14)
