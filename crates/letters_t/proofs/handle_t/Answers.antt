-- `letters_t::handle_t` meets its contract: before another byte than those that some case asks for, the last case answers.
use Prim.Native.Nat.{ℕ}
use mathlib.Core.Path.{refl, sym, ◌∙◌}
use mathlib.Core.Bool.{false, false≢true, not}
use Rattle.byte.specs.Text.{bytes}
use Rattle.byte.specs.Vowel.{among}
use Rattle.rules.specs.Tree.{run}
use Rattle.rules.proofs.Next.{by_next, is_none}
use Rattle.letters_t.specs.Trees.{tree_t}
use Rattle.letters_t.proofs.Ways.{ways_t}
use Rattle.letters_t.proofs.handle_t.Goals as goal

pub returns-then-ahead : goal.returns-then-ahead
unfolding run tree_t
returns-then-ahead c = c.handle_t_before.ensures

pub returns-else-ahead : goal.returns-else-ahead
unfolding run tree_t
returns-else-ahead c =
    by_next (λ (x : ℕ). not (among (bytes "CDHIT") x)) false tree_t _ _ _ ways_t
    (is_none _ _ (bytes "CDHIT") refl (sym c.ahead.ensures ∙ c.if-ahead.false)) (λ e. absurd (false≢true e)) c.both.ensures
