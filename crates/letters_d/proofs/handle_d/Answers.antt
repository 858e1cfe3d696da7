-- `letters_d::handle_d` meets its contract: before another byte than those that some case asks for, the last case answers.
use Prim.Native.Nat.{ℕ}
use mathlib.Core.Path.{refl, sym, ◌∙◌}
use mathlib.Core.Bool.{false, false≢true, not}
use Rattle.byte.specs.Text.{bytes}
use Rattle.byte.specs.Vowel.{among}
use Rattle.rules.specs.Tree.{run}
use Rattle.rules.proofs.Next.{by_next, is_none}
use Rattle.letters_d.specs.Trees.{tree_d}
use Rattle.letters_d.proofs.Ways.{ways_d}
use Rattle.letters_d.proofs.handle_d.Goals as goal

pub returns-then-ahead : goal.returns-then-ahead
unfolding run tree_d
returns-then-ahead c = c.handle_d_before.ensures

pub returns-else-ahead : goal.returns-else-ahead
unfolding run tree_d
returns-else-ahead c =
    by_next (λ (x : ℕ). not (among (bytes "DGT") x)) false tree_d _ _ _ ways_d
    (is_none _ _ (bytes "DGT") refl (sym c.ahead.ensures ∙ c.if-ahead.false)) (λ e. absurd (false≢true e)) c.both.ensures
