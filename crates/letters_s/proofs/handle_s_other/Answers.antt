-- `letters_s::handle_s_other` meets its contract: at each return the tests on the way lead the tree there.
use Rattle.rules.specs.Cond.{holds}
use Rattle.rules.proofs.Tree.{said, says-marked, tells}
use Rattle.letters_s.specs.Trees.{tree_s_other, tree_sio}
use Rattle.letters_s_next.specs.Trees.{tree_s_next, tree_s_last}
use Rattle.letters_sc.specs.Trees.{tree_sc, tree_sch}
use Rattle.letters_s.proofs.handle_s_other.Goals as goal

pub handle_sio-requires : goal.handle_sio-requires
unfolding holds tree_s_other tree_sio tree_s_next tree_sc tree_sch tree_s_last
handle_sio-requires c = c.sio_text-text.ensures.tells

pub returns-then-text-ne0 : goal.returns-then-text-ne0
unfolding holds tree_s_other tree_sio tree_s_next tree_sc tree_sch tree_s_last
returns-then-text-ne0 c = said (search (says-marked, tells) depth 14)

pub returns-else-text-ne0 : goal.returns-else-text-ne0
unfolding holds tree_s_other tree_sio tree_s_next tree_sc tree_sch tree_s_last
returns-else-text-ne0 c = said (search (says-marked, tells) depth 14)
