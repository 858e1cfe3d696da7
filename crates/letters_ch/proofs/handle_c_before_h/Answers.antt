-- `letters_ch::handle_c_before_h` meets its contract: at each return the tests on the way lead the tree there.
use mathlib.Core.Path.{sym, ◌∙◌}
use Rattle.rules.specs.Cond.{holds}
use Rattle.rules.proofs.Tree.{said, says, texts}
use Rattle.letters_ch.specs.Trees.{tree_c_before_h}
use Rattle.letters_ch.proofs.handle_c_before_h.Goals as goal

pub handle_ch-requires : goal.handle_ch-requires
unfolding holds tree_c_before_h
handle_ch-requires c = sym c.ahead.ensures ∙ c.if-ahead.true

pub returns-then-condition_c0 : goal.returns-then-condition_c0
unfolding holds tree_c_before_h
returns-then-condition_c0 c = said (search (says, texts) depth 14)

pub returns-then-ahead : goal.returns-then-ahead
unfolding holds tree_c_before_h
returns-then-ahead c = said (search says depth 14)

pub returns-else-ahead : goal.returns-else-ahead
unfolding holds tree_c_before_h
returns-else-ahead c = said (search says depth 14)
