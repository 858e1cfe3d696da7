-- `letters_c::handle_c` meets its contract: each branch answers as what the next byte leaves of the tree.
use Prim.Native.Nat.{ℕ, ◌+◌}
use mathlib.Core.Path.{◌≡◌, refl, sym, ◌∙◌}
use mathlib.Core.Bool.{Bool, true, false, false≢true, not, ◌&&◌}
use mathlib.Core.List.{List}
use mathlib.Core.Option.{none}
use lib.ListN.{get_or}
use Rattle.byte.specs.Text.{bytes}
use Rattle.byte.specs.Vowel.{among}
use Rattle.rules.specs.Cond.{plain, edited}
use Rattle.rules.specs.Told.{numbered, speaker}
use Rattle.rules.specs.CasesC.{cases_c}
use Rattle.rules.specs.Tree.{run}
use Rattle.outcome.specs.declared.Spoken.{Spoken}
use Rattle.basics.proofs.Tests.{also}
use Rattle.rules.proofs.Mode.{free_run}
use Rattle.rules.proofs.Next.{by_next, is_one, is_none}
use Rattle.letters_ch.specs.Trees.{tree_ch, tree_c_before_h}
use Rattle.letters_cc.specs.Trees.{tree_cc}
use Rattle.letters_c.specs.Trees.{tree_c_hard, tree_c_last, tree_c_next, tree_c, tree_c_before}
use Rattle.letters_c.proofs.Ways.{ways_c}
use Rattle.letters_c.proofs.handle_c.Goals as goal

-- than H, and than any that some case asks for
abbrev other : ℕ → Bool
other x = not (among (bytes "H") x)

abbrev neither : ℕ → Bool
neither x = other x && not (among (bytes " ACEGIKQYZ") x)

no_end : {A : Type 0} → false ≡ true → A
no_end e = absurd (false≢true e)

-- what is left before another byte than H asks nothing of the edition
by-other : (u : List ℕ) (p : ℕ) (e : Bool) {v : Spoken} → other (get_or u (p + 1) 0) ≡ true → v ≡ run tree_c_before none u p plain → v ≡ speaker (numbered cases_c) u p (edited e)
unfolding tree_c tree_ch tree_cc tree_c_next tree_c_last tree_c_hard tree_c_before
by-other u p e h i = by_next other false tree_c u p (edited e) ways_c h no_end (i ∙ free_run tree_c_before none refl u p plain (edited e))

pub returns-then-ahead : goal.returns-then-ahead
unfolding run tree_c tree_ch tree_cc tree_c_next tree_c_last tree_c_hard tree_c_before_h tree_c_before
returns-then-ahead c =
    by_next (among (bytes "H")) false tree_c _ _ _ ways_c
    (is_one _ _ (bytes "H") (sym c.ahead.ensures ∙ c.if-ahead.true)) no_end c.handle_c_before_h.ensures

pub returns-then-ahead-2 : goal.returns-then-ahead-2
unfolding run tree_c tree_ch tree_cc tree_c_next tree_c_last tree_c_hard tree_c_before_h tree_c_before
returns-then-ahead-2 c =
    by-other _ _ _
    (is_none _ _ (bytes "H") refl (sym c.ahead.ensures ∙ c.if-ahead.false)) c.handle_c_before.ensures

pub returns-else-ahead-2 : goal.returns-else-ahead-2
unfolding run tree_c tree_ch tree_cc tree_c_next tree_c_last tree_c_hard tree_c_before_h tree_c_before
returns-else-ahead-2 c =
    by_next neither false tree_c _ _ _ ways_c
    (also _ _ (is_none _ _ (bytes "H") refl (sym c.ahead.ensures ∙ c.if-ahead.false))
    (is_none _ _ (bytes " ACEGIKQYZ") refl (sym c.ahead-else-ahead.ensures ∙ c.if-ahead-2.false)))
    no_end c.both.ensures
