-- `letters_s_next::handle_s_last` meets its contract: at each return the tests on the way lead the tree there.
use mathlib.Core.Path.{sym, ◌∙◌}
use Rattle.rules.specs.Told.{text_of}
use Rattle.rules.specs.Cond.{holds}
use Rattle.rules.proofs.Tree.{said, says, texts, tells}
use Rattle.letters_s_next.specs.Trees.{tree_s_last}
use Rattle.letters_s_next.proofs.handle_s_last.Goals as goal

pub artois_text-text-requires : goal.artois_text-text-requires
unfolding holds text_of tree_s_last
artois_text-text-requires c = sym c.is_artois.ensures ∙ c.if-is_artois.true

pub returns-then-is_artois : goal.returns-then-is_artois
unfolding holds text_of tree_s_last
returns-then-is_artois c = said (search (says, texts) depth 14)

pub returns-else-is_artois : goal.returns-else-is_artois
unfolding holds text_of tree_s_last
returns-else-is_artois c = said (search (says, tells) depth 14)
