-- `letters_w::handle_first_w` meets its contract: at each return the tests on the way lead the tree there.
use Rattle.rules.specs.Cond.{holds}
use Rattle.rules.specs.Told.{text_of}
use Rattle.rules.proofs.Tree.{said, says, texts}
use Rattle.letters_w.specs.Trees.{tree_first_w}
use Rattle.letters_w.proofs.handle_first_w.Goals as goal

pub returns-then-vowel_ahead : goal.returns-then-vowel_ahead
unfolding holds text_of tree_first_w
returns-then-vowel_ahead c = said (search (says, texts) depth 14)

pub returns-else-vowel_ahead : goal.returns-else-vowel_ahead
unfolding holds text_of tree_first_w
returns-else-vowel_ahead c = said (search (says, texts) depth 14)
