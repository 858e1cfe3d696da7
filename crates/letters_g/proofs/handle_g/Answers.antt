-- `letters_g::handle_g` meets its contract: before another byte than those that some case asks for, the last case answers.
use Prim.Native.Nat.{ℕ}
use mathlib.Core.Path.{refl, sym, ◌∙◌}
use mathlib.Core.Bool.{false, false≢true, not}
use Rattle.byte.specs.Text.{bytes}
use Rattle.byte.specs.Vowel.{among}
use Rattle.rules.specs.Tree.{run}
use Rattle.rules.proofs.Next.{by_next, is_none}
use Rattle.letters_gh.specs.Trees.{tree_gh, tree_gh_later}
use Rattle.letters_gn.specs.Trees.{tree_gn}
use Rattle.letters_ge.specs.Trees.{tree_ggi, tree_g_last}
use Rattle.letters_g.specs.Trees.{tree_g}
use Rattle.letters_g.proofs.Ways.{ways_g}
use Rattle.letters_g.proofs.handle_g.Goals as goal

pub returns-then-ahead : goal.returns-then-ahead
unfolding run tree_gh tree_gh_later tree_gn tree_ggi tree_g_last tree_g
returns-then-ahead c = c.handle_g_before.ensures

pub returns-else-ahead : goal.returns-else-ahead
unfolding run tree_gh tree_gh_later tree_gn tree_ggi tree_g_last tree_g
returns-else-ahead c =
    by_next (λ (x : ℕ). not (among (bytes "EGHILNY") x)) false tree_g _ _ _ ways_g
    (is_none _ _ (bytes "EGHILNY") refl (sym c.ahead.ensures ∙ c.if-ahead.false)) (λ e. absurd (false≢true e)) c.both.ensures
