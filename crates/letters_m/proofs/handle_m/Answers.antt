-- `letters_m::handle_m` meets its contract: at each return the tests on the way lead the tree there.
use Rattle.rules.specs.Cond.{holds}
use Rattle.rules.proofs.Tree.{spoken, says, texts}
use Rattle.letters_m.specs.Trees.{tree_m}
use Rattle.letters_m.proofs.Ways.{ways_m}
use Rattle.letters_m.proofs.handle_m.Goals as goal

pub returns-then-condition_m0 : goal.returns-then-condition_m0
unfolding holds tree_m
returns-then-condition_m0 c = spoken ways_m (search (says, texts) depth 14)

pub returns-else-condition_m0 : goal.returns-else-condition_m0
unfolding holds tree_m
returns-else-condition_m0 c = spoken ways_m (search says depth 14)
