-- `letters_j::handle_j` meets its contract: at each return the tests on the way lead the tree there.
use mathlib.Core.Path.{sym, ◌∙◌}
use Rattle.rules.specs.Cond.{holds}
use Rattle.rules.proofs.Tree.{spoken, says-marked, texts}
use Rattle.letters_j.specs.Trees.{tree_j}
use Rattle.letters_j_other.specs.Trees.{tree_j_other}
use Rattle.letters_j.proofs.Ways.{ways_j}
use Rattle.letters_j.proofs.handle_j.Goals as goal

pub handle_j_other-requires : goal.handle_j_other-requires
unfolding holds tree_j tree_j_other
handle_j_other-requires c = sym c.is_spanish.ensures ∙ c.if-is_spanish.false

pub returns-then-is_spanish_h : goal.returns-then-is_spanish_h
unfolding holds tree_j tree_j_other
returns-then-is_spanish_h c = spoken ways_j (search (says-marked, texts) depth 14)

pub returns-else-is_spanish_h : goal.returns-else-is_spanish_h
unfolding holds tree_j tree_j_other
returns-else-is_spanish_h c = spoken ways_j (search (says-marked, texts) depth 14)

pub returns-else-is_spanish : goal.returns-else-is_spanish
unfolding holds tree_j tree_j_other
returns-else-is_spanish c = spoken ways_j (search says-marked depth 14)
