-- `letters_sc::handle_sch` meets its contract: at each return the tests on the way lead the tree there.
use Rattle.rules.specs.Cond.{holds}
use Rattle.rules.proofs.Tree.{said, says, texts}
use Rattle.letters_sc.specs.Trees.{tree_sch}
use Rattle.letters_sc.proofs.handle_sch.Goals as goal

pub returns-then-ahead-2 : goal.returns-then-ahead-2
unfolding holds tree_sch
returns-then-ahead-2 c = said (search (says, texts) depth 14)

pub returns-else-ahead-2 : goal.returns-else-ahead-2
unfolding holds tree_sch
returns-else-ahead-2 c = said (search (says, texts) depth 14)

pub returns-then-is_first_sch : goal.returns-then-is_first_sch
unfolding holds tree_sch
returns-then-is_first_sch c = said (search (says, texts) depth 14)

pub returns-else-is_first_sch : goal.returns-else-is_first_sch
unfolding holds tree_sch
returns-else-is_first_sch c = said (search (says, texts) depth 14)
