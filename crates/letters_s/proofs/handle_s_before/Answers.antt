-- `letters_s::handle_s_before` meets its contract: at each return the tests on the way lead the tree there.
use mathlib.Core.Path.{sym, ◌∙◌}
use Rattle.rules.specs.Cond.{holds}
use Rattle.rules.proofs.Tree.{spoken, says-marked, texts, tells}
use Rattle.letters_s.specs.Trees.{tree_s_other, tree_s, tree_sh, tree_sio}
use Rattle.letters_s_next.specs.Trees.{tree_s_next, tree_s_last}
use Rattle.letters_sc.specs.Trees.{tree_sc, tree_sch}
use Rattle.letters_s.proofs.Ways.{ways_s}
use Rattle.letters_s.proofs.handle_s_before.Goals as goal

pub handle_sh-requires : goal.handle_sh-requires
unfolding holds tree_s_other tree_s tree_sh tree_sio tree_s_next tree_sc tree_sch tree_s_last
handle_sh-requires c = sym c.ahead.ensures ∙ c.if-ahead.true

pub returns-then-text-ne0 : goal.returns-then-text-ne0
unfolding holds tree_s_other tree_s tree_sh tree_sio tree_s_next tree_sc tree_sch tree_s_last
returns-then-text-ne0 c = spoken ways_s (search (says-marked, texts, tells) depth 14)

pub returns-then-is_sugar : goal.returns-then-is_sugar
unfolding holds tree_s_other tree_s tree_sh tree_sio tree_s_next tree_sc tree_sch tree_s_last
returns-then-is_sugar c = spoken ways_s (search (says-marked, texts, tells) depth 14)

pub returns-then-ahead : goal.returns-then-ahead
unfolding holds tree_s_other tree_s tree_sh tree_sio tree_s_next tree_sc tree_sch tree_s_last
returns-then-ahead c = spoken ways_s (search (says-marked, tells) depth 14)

pub returns-else-ahead : goal.returns-else-ahead
unfolding holds tree_s_other tree_s tree_sh tree_sio tree_s_next tree_sc tree_sch tree_s_last
returns-else-ahead c = spoken ways_s (search (says-marked, tells) depth 14)
