-- `letters_gh::handle_gh` meets its contract: at each return the tests on the way lead the tree there.
use Rattle.rules.specs.Cond.{holds}
use Rattle.rules.proofs.Tree.{said, says}
use Rattle.letters_gh.specs.Trees.{tree_gh}
use Rattle.letters_gh.proofs.handle_gh.Goals as goal

pub returns-then-is_after_consonant : goal.returns-then-is_after_consonant
unfolding holds tree_gh
returns-then-is_after_consonant c = said (search says depth 14)

pub returns-then-char_ahead : goal.returns-then-char_ahead
unfolding holds tree_gh
returns-then-char_ahead c = said (search says depth 14)

pub returns-else-char_ahead : goal.returns-else-char_ahead
unfolding holds tree_gh
returns-else-char_ahead c = said (search says depth 14)

pub returns-else-at-eq0 : goal.returns-else-at-eq0
unfolding holds tree_gh
returns-else-at-eq0 c = said (search says depth 14)
