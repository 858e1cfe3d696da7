-- `letters_c::handle_c_before` meets its contract: at each return the tests on the way lead the tree there.
use Rattle.rules.specs.Cond.{holds}
use Rattle.rules.proofs.Tree.{said, says, texts}
use Rattle.letters_c.specs.Trees.{tree_c_before}
use Rattle.letters_c.proofs.handle_c_before.Goals as goal

pub returns-then-is_caesar : goal.returns-then-is_caesar
unfolding holds tree_c_before
returns-then-is_caesar c = said (search (says, texts) depth 14)

pub returns-then-is_czerny : goal.returns-then-is_czerny
unfolding holds tree_c_before
returns-then-is_czerny c = said (search (says, texts) depth 14)

pub returns-else-is_czerny : goal.returns-else-is_czerny
unfolding holds tree_c_before
returns-else-is_czerny c = said (search says depth 14)
