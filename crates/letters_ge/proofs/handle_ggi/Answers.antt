-- `letters_ge::handle_ggi` meets its contract: at each return the tests on the way lead the tree there.
use Rattle.rules.specs.Cond.{holds}
use Rattle.rules.specs.Told.{text_of}
use Rattle.rules.proofs.Tree.{said, says, texts}
use Rattle.letters_ge.specs.Trees.{tree_ggi}
use Rattle.letters_ge.proofs.handle_ggi.Goals as goal

pub returns-then-is_germanic : goal.returns-then-is_germanic
unfolding holds text_of tree_ggi
returns-then-is_germanic c = said (search (says, texts) depth 14)

pub returns-then-ahead : goal.returns-then-ahead
unfolding holds text_of tree_ggi
returns-then-ahead c = said (search (says, texts) depth 14)

pub returns-else-ahead : goal.returns-else-ahead
unfolding holds text_of tree_ggi
returns-else-ahead c = said (search (says, texts) depth 14)
