-- `letters_x::handle_x` meets its contract: at each return the tests on the way lead the tree there.
use Rattle.rules.specs.Cond.{holds}
use Rattle.rules.proofs.Tree.{spoken, says}
use Rattle.letters_x.specs.Trees.{tree_x}
use Rattle.letters_x.proofs.Ways.{ways_x}
use Rattle.letters_x.proofs.handle_x.Goals as goal

pub returns-then-at-eq0 : goal.returns-then-at-eq0
unfolding holds tree_x
returns-then-at-eq0 c = spoken ways_x (search says depth 14)

pub returns-else-at-eq0 : goal.returns-else-at-eq0
unfolding holds tree_x
returns-else-at-eq0 c = spoken ways_x (search says depth 14)
