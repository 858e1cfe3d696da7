-- `letters_s::handle_sh` meets its contract: at each return the tests on the way lead the tree there.
use Rattle.rules.specs.Cond.{holds}
use Rattle.rules.proofs.Tree.{said, says, texts}
use Rattle.letters_s.specs.Trees.{tree_sh}
use Rattle.letters_s.proofs.handle_sh.Goals as goal

pub returns-then-ahead : goal.returns-then-ahead
unfolding holds tree_sh
returns-then-ahead c = said (search (says, texts) depth 14)

pub returns-else-ahead : goal.returns-else-ahead
unfolding holds tree_sh
returns-else-ahead c = said (search (says, texts) depth 14)
