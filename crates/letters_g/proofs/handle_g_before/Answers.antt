-- `letters_g::handle_g_before` meets its contract: at each return the tests on the way lead the tree there.
use mathlib.Core.Path.{sym, ◌∙◌}
use Rattle.rules.specs.Cond.{holds}
use Rattle.rules.proofs.Tree.{spoken, says-marked, texts}
use Rattle.letters_g.specs.Trees.{tree_g}
use Rattle.letters_gh.specs.Trees.{tree_gh, tree_gh_later}
use Rattle.letters_gn.specs.Trees.{tree_gn}
use Rattle.letters_ge.specs.Trees.{tree_g_last, tree_ggi}
use Rattle.letters_g.proofs.Ways.{ways_g}
use Rattle.letters_g.proofs.handle_g_before.Goals as goal

pub handle_gn-requires : goal.handle_gn-requires
unfolding holds tree_g tree_gh tree_gh_later tree_gn tree_g_last tree_ggi
handle_gn-requires c = sym c.char_ahead-else-char_ahead.ensures ∙ c.if-char_ahead-2.true

pub returns-then-char_ahead : goal.returns-then-char_ahead
unfolding holds tree_g tree_gh tree_gh_later tree_gn tree_g_last tree_ggi
returns-then-char_ahead c = spoken ways_g (search says-marked depth 14)

pub returns-then-char_ahead-2 : goal.returns-then-char_ahead-2
unfolding holds tree_g tree_gh tree_gh_later tree_gn tree_g_last tree_ggi
returns-then-char_ahead-2 c = spoken ways_g (search says-marked depth 14)

pub returns-then-is_gli : goal.returns-then-is_gli
unfolding holds tree_g tree_gh tree_gh_later tree_gn tree_g_last tree_ggi
returns-then-is_gli c = spoken ways_g (search (says-marked, texts) depth 14)

pub returns-then-is_ger : goal.returns-then-is_ger
unfolding holds tree_g tree_gh tree_gh_later tree_gn tree_g_last tree_ggi
returns-then-is_ger c = spoken ways_g (search (says-marked, texts) depth 14)

pub returns-else-is_ger : goal.returns-else-is_ger
unfolding holds tree_g tree_gh tree_gh_later tree_gn tree_g_last tree_ggi
returns-else-is_ger c = spoken ways_g (search says-marked depth 14)
