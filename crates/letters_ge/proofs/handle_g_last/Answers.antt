-- `letters_ge::handle_g_last` meets its contract: at each return the tests on the way lead the tree there.
use Rattle.rules.specs.Cond.{holds}
use Rattle.rules.specs.Told.{text_of}
use Rattle.rules.proofs.Tree.{said, says, tells}
use Rattle.letters_ge.specs.Trees.{tree_g_last}
use Rattle.letters_ge.proofs.handle_g_last.Goals as goal

pub handle_ggi-requires : goal.handle_ggi-requires
unfolding holds text_of tree_g_last
handle_ggi-requires c = record { tells = c.biaggi_text-text.ensures.tells; held = c.if-text-ne0.true }

pub returns-then-text-ne0 : goal.returns-then-text-ne0
unfolding holds text_of tree_g_last
returns-then-text-ne0 c = said (search (says, tells) depth 14)

pub returns-then-char_ahead : goal.returns-then-char_ahead
unfolding holds text_of tree_g_last
returns-then-char_ahead c = said (search (says, tells) depth 14)

pub returns-else-char_ahead : goal.returns-else-char_ahead
unfolding holds text_of tree_g_last
returns-else-char_ahead c = said (search (says, tells) depth 14)
