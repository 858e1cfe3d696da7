-- `letters_ch::handle_ch` meets its contract: at each return the tests on the way lead the tree there.
use Rattle.rules.specs.Cond.{holds}
use Rattle.rules.proofs.Tree.{said, says, texts}
use Rattle.letters_ch.specs.Trees.{tree_ch}
use Rattle.letters_ch.proofs.handle_ch.Goals as goal

pub returns-then-is_chae : goal.returns-then-is_chae
unfolding holds tree_ch
returns-then-is_chae c = said (search (says, texts) depth 14)

pub returns-then-is_greek : goal.returns-then-is_greek
unfolding holds tree_ch
returns-then-is_greek c = said (search (says, texts) depth 14)

pub returns-then-front : goal.returns-then-front
unfolding holds tree_ch
returns-then-front c = said (search (says, texts) depth 14)

pub returns-else-front : goal.returns-else-front
unfolding holds tree_ch
returns-else-front c = said (search (says, texts) depth 14)

pub returns-else-at-gt0 : goal.returns-else-at-gt0
unfolding holds tree_ch
returns-else-at-gt0 c = said (search (says, texts) depth 14)
