-- `letters_sc::handle_sc` meets its contract: at each return the tests on the way lead the tree there.
use mathlib.Core.Path.{sym, ◌∙◌}
use Rattle.rules.specs.Cond.{holds}
use Rattle.basics.proofs.Tests.{also}
use Rattle.rules.proofs.Tree.{said, says, texts}
use Rattle.letters_sc.specs.Trees.{tree_sc}
use Rattle.letters_sc.proofs.handle_sc.Goals as goal

pub handle_sch-requires : goal.handle_sch-requires
unfolding holds tree_sc
handle_sch-requires c = also _ _ c.requires (sym c.char_ahead.ensures ∙ c.if-char_ahead.true)

pub returns-then-char_ahead : goal.returns-then-char_ahead
unfolding holds tree_sc
returns-then-char_ahead c = said (search says depth 14)

pub returns-then-ahead : goal.returns-then-ahead
unfolding holds tree_sc
returns-then-ahead c = said (search (says, texts) depth 14)

pub returns-else-ahead : goal.returns-else-ahead
unfolding holds tree_sc
returns-else-ahead c = said (search (says, texts) depth 14)
