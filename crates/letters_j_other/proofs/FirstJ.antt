-- Behind the Spanish names the tree's test of a first J is that of the place alone, which the code asks.
use Prim.Native.Nat.{ℕ}
use mathlib.Core.Path.{◌≡◌, refl, sym, ◌∙◌}
use mathlib.Core.Bool.{false}
use mathlib.Core.List.{List}
use mathlib.Core.Option.{Option}
use borrow.Author.Tests.{eq-eqb, ne_eqb}
use Rattle.rules.specs.Cond.{Cond, Mode, plain, holds}
use Rattle.rules.specs.CasesDL.{spanish, first_j}
use Rattle.rules.specs.Tree.{Tree, ask, onto}
use Rattle.outcome.specs.declared.Spoken.{Spoken}
use Rattle.rules.proofs.Idle.{first_j_lem}
use Rattle.rules.proofs.Tree.{Says, yes, no, says-marked}

module _ {u : List ℕ} {p : ℕ} {m : Mode} {o : Option Cond} {t e : Tree} {v : Spoken} where
  pub yes_first : holds spanish u p plain ≡ false → p ≡ 0 → Says u p m (onto o first_j) t v → Says u p m o (ask first_j t e) v
  unfolding holds
  yes_first n h s = yes (sym (first_j_lem u p plain n ∙ eq-eqb p 0 h)) refl s

  pub no_first : holds spanish u p plain ≡ false → (p ≡ 0 → ⊥) → Says u p m o e v → Says u p m o (ask first_j t e) v
  unfolding holds
  no_first n h s = no (sym (first_j_lem u p plain n ∙ ne_eqb p 0 h)) refl s

-- what `search` is handed at a return of handle_j_other
pub ruleset Says-first = (yes_first, no_first, says-marked)
