-- No public function's promise leaves a choice: for the same arguments, any two slices at exit that it admits are equal.
use mathlib.Core.Path.{sym, ◌∙◌, ◌≡◌}
use borrow.Fn.Kinds.{Dens, res_t, ended_of}
use denote.Triple.Clauses.{AtExit}
use Rattle.copying.proofs.copy_to.Kinds as copy-to-kinds
use Rattle.copying.proofs.copy_to.Reads as copy-to
use Rattle.copying.proofs.copy_down.Kinds as copy-down-kinds
use Rattle.copying.proofs.copy_down.Reads as copy-down
use contract.Lifetimes.{Lfts}

module _ (κs : Lfts 2) (a : Dens κs copy-to-kinds.ps) (x y : (res_t copy-to-kinds.r κs).Denot) (s t : AtExit (ended_of 2 copy-to-kinds.ps copy-to-kinds.r) κs) where
  pub one_copy_to_room : copy-to.Post κs a x s → copy-to.Post κs a y t → s.0.now ≡ t.0.now
  one_copy_to_room p q = p ∙ sym (q)

module _ (κs : Lfts 1) (a : Dens κs copy-down-kinds.ps) (x y : (res_t copy-down-kinds.r κs).Denot) (s t : AtExit (ended_of 1 copy-down-kinds.ps copy-down-kinds.r) κs) where
  pub one_copy_down_room : copy-down.Post κs a x s → copy-down.Post κs a y t → s.0.now ≡ t.0.now
  one_copy_down_room p q = p ∙ sym (q)
