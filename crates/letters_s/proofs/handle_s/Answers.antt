-- `letters_s::handle_s` meets its contract: in the word, before another byte than those that some case asks for, the last case
-- answers.
use Prim.Native.Nat.{ℕ}
use mathlib.Core.Path.{refl, sym, ◌∙◌}
use mathlib.Core.Bool.{true, not}
use Rattle.byte.specs.Text.{bytes}
use Rattle.byte.specs.Vowel.{among}
use Rattle.rules.specs.Tree.{run}
use Rattle.basics.proofs.Tests.{neither}
use Rattle.rules.proofs.Next.{by_next, is_none}
use Rattle.letters_s.specs.Trees.{tree_s_other, tree_sh, tree_sio, tree_s}
use Rattle.letters_s_next.specs.Trees.{tree_s_last, tree_s_next}
use Rattle.letters_sc.specs.Trees.{tree_sch, tree_sc}
use Rattle.letters_s.proofs.Ways.{ways_s}
use Rattle.letters_s.proofs.handle_s.Goals as goal

pub returns-then-from_end-ahead : goal.returns-then-from_end-ahead
unfolding run tree_s_other tree_sh tree_sio tree_sch tree_sc tree_s_last tree_s_next tree_s
returns-then-from_end-ahead c = c.handle_s_before.ensures

pub returns-else-from_end-ahead : goal.returns-else-from_end-ahead
unfolding run tree_s_other tree_sh tree_sio tree_sch tree_sc tree_s_last tree_s_next tree_s
returns-else-from_end-ahead c =
    let n = neither _ _ c.if-from_end-ahead.false in
    by_next (λ (x : ℕ). not (among (bytes "CHILMNSUWZ") x)) true tree_s _ _ _ ways_s
    (is_none _ _ (bytes "CHILMNSUWZ") refl (sym c.ahead.ensures ∙ n.1)) (λ e. sym c.from_end.ensures ∙ n.0) c.both.ensures
