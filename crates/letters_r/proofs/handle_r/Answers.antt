-- `letters_r::handle_r` meets its contract: at each return the tests on the way lead the tree there.
use Rattle.rules.specs.Cond.{holds}
use Rattle.rules.proofs.Tree.{spoken, says-marked, texts}
use Rattle.letters_r.specs.Trees.{tree_r}
use Rattle.letters_r.proofs.Ways.{ways_r}
use Rattle.letters_r.proofs.handle_r.Goals as goal

pub returns-then-is_rogier : goal.returns-then-is_rogier
unfolding holds tree_r
returns-then-is_rogier c = spoken ways_r (search (says-marked, texts) depth 14)

pub returns-else-is_rogier : goal.returns-else-is_rogier
unfolding holds tree_r
returns-else-is_rogier c = spoken ways_r (search says-marked depth 14)
