-- No public function's promise leaves a choice: for the same arguments, any two results that it admits are equal, and so are the
-- lent tallies at exit. Of `visit_into`, which is lent a struct, the promise is a proposition of the logic: two together give the
-- equations.
use mathlib.Core.Path.{◌≡◌, sym, ◌∙◌}
use denote.Triple.Clauses.{AtExit}
use denote.Triple.Entry.{Args, Res}
use Rattle.basics.proofs.Choice.{OneResult}
use Rattle.visiting.specs.contracts.visit_into as visit-into
use Rattle.visiting.proofs.visit_with.Kinds as visit-with-kinds
use Rattle.visiting.proofs.visit_with.Reads as visit-with
use seplogic.Ra.Ura.{Ura}
use base.Logic.{SProp, ent, sep, fst∗, snd∗}
use prog.Memory.{Memory}
use prog.Routine.{Routine}
use types.Logic.{Logic}
use contract.Lifetimes.{Lfts}
use contract.Monad.{Fun, fact, fact_i, fact_use}

pub one_visit_with : OneResult visit-with-kinds.ps visit-with-kinds.r visit-with.Post
one_visit_with κs a x y s t p q = p ∙ sym q

-- ---- the lent tally
module _ {M : Type 1} (𝓤 : Ura M) where
  together : {φ ψ χ : Type 0} → (φ → ψ → χ) → ent 𝓤 (sep 𝓤 (fact 𝓤 φ) (fact 𝓤 ψ)) (fact 𝓤 χ)
  together {φ} {ψ} {χ} h =
      fact_use 𝓤 φ (fst∗ 𝓤 (fact 𝓤 φ) (fact 𝓤 ψ)) (λ p. fact_use 𝓤 ψ (snd∗ 𝓤 (fact 𝓤 φ) (fact 𝓤 ψ)) (λ q. fact_i 𝓤 χ (sep 𝓤 (fact 𝓤 φ) (fact 𝓤 ψ)) (h p q)))

  pub one_visit_into : (𝓛 : Logic 𝓤) (at_mem : Memory → SProp 𝓤) (run : Routine → Fun 𝓤) (κs : Lfts 2) (a : Args visit-into.signature κs)
      (g j : (visit-into.clauses 𝓛 at_mem run κs a).ghost) (r s : Res visit-into.signature κs) (e f : AtExit visit-into.ended κs)
      → ent 𝓤 (sep 𝓤 ((visit-into.clauses 𝓛 at_mem run κs a).ensures g r e) ((visit-into.clauses 𝓛 at_mem run κs a).ensures j s f)) (fact 𝓤 ((r ≡ s) × (e.0.now ≡ f.0.now)))
  one_visit_into 𝓛 at_mem run κs a g j r s e f =
      together (λ p q. (p.1 ∙ sym q.1, cc (p.0, p.1, q.0, q.1)))
