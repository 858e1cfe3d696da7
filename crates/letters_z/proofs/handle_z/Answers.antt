-- `letters_z::handle_z` meets its contract: at each return the tests on the way lead the tree there.
use Rattle.rules.specs.Cond.{holds}
use Rattle.rules.proofs.Tree.{spoken, says-marked}
use Rattle.letters_z.specs.Trees.{tree_z, tree_z_other}
use Rattle.letters_z.proofs.Ways.{ways_z}
use Rattle.letters_z.proofs.handle_z.Goals as goal

pub returns-then-char_ahead : goal.returns-then-char_ahead
unfolding holds tree_z tree_z_other
returns-then-char_ahead c = spoken ways_z (search says-marked depth 14)

pub returns-else-char_ahead : goal.returns-else-char_ahead
unfolding holds tree_z tree_z_other
returns-else-char_ahead c = spoken ways_z (search says-marked depth 14)
