-- `letters_z::handle_z_other` meets its contract: at each return the tests on the way lead the tree there.
use Rattle.rules.specs.Cond.{holds}
use Rattle.rules.specs.Told.{text_of}
use Rattle.rules.proofs.Tree.{said, says-marked, texts}
use Rattle.letters_z.specs.Trees.{tree_z_other}
use Rattle.letters_z.proofs.handle_z_other.Goals as goal

pub returns-then-is_zo_zi_za : goal.returns-then-is_zo_zi_za
unfolding holds text_of tree_z_other
returns-then-is_zo_zi_za c = said (search (says-marked, texts) depth 14)

pub returns-else-is_zo_zi_za : goal.returns-else-is_zo_zi_za
unfolding holds text_of tree_z_other
returns-else-is_zo_zi_za c = said (search says-marked depth 14)
