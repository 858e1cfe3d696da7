-- `letters_l::handle_l` meets its contract: at each return the tests on the way lead the tree there.
use mathlib.Core.Path.{sym, ◌∙◌}
use Rattle.rules.specs.Cond.{holds}
use Rattle.rules.specs.Told.{text_of}
use Rattle.rules.proofs.Tree.{spoken, says, texts}
use Rattle.letters_l.specs.Trees.{tree_l}
use Rattle.letters_l.proofs.Ways.{ways_l}
use Rattle.letters_l.proofs.handle_l.Goals as goal

pub l0_text-text-requires : goal.l0_text-text-requires
unfolding holds text_of tree_l
l0_text-text-requires c = sym c.condition_l0.ensures ∙ c.if-condition_l0.true

pub returns-then-condition_l0 : goal.returns-then-condition_l0
unfolding holds text_of tree_l
returns-then-condition_l0 c = spoken ways_l (search (says, texts) depth 14)

pub returns-else-condition_l0 : goal.returns-else-condition_l0
unfolding holds text_of tree_l
returns-else-condition_l0 c = spoken ways_l (search says depth 14)

pub returns-else-char_ahead : goal.returns-else-char_ahead
unfolding holds text_of tree_l
returns-else-char_ahead c = spoken ways_l (search says depth 14)
