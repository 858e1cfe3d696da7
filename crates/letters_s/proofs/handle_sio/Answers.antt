-- `letters_s::handle_sio` meets its contract: at each return the tests on the way lead the tree there.
use Rattle.rules.specs.Told.{text_of}
use Rattle.rules.specs.Cond.{holds}
use Rattle.rules.proofs.Tree.{said, says-marked, texts}
use Rattle.letters_s.specs.Trees.{tree_sio}
use Rattle.letters_s.proofs.handle_sio.Goals as goal

pub returns-then-slavo : goal.returns-then-slavo
unfolding holds text_of tree_sio
returns-then-slavo c = said (search (says-marked, texts) depth 14)

pub returns-else-slavo : goal.returns-else-slavo
unfolding holds text_of tree_sio
returns-else-slavo c = said (search (says-marked, texts) depth 14)
