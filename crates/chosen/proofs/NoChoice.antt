-- No public function's promise leaves a choice: for the same arguments, any two results that it admits are equal, of the part that
-- `chosen` hands back, its bytes.
use mathlib.Core.Path.{◌≡◌, sym, ◌∙◌}
use borrow.Fn.Kinds.{Dens, res_t, ended_of}
use denote.Triple.Clauses.{AtExit}
use Rattle.chosen.proofs.chosen.Kinds as chosen-kinds
use Rattle.chosen.proofs.chosen.Reads as chosen
use contract.Lifetimes.{Lfts}

module _ (κs : Lfts 1) (a : Dens κs chosen-kinds.ps) (x y : (res_t chosen-kinds.r κs).Denot) (s t : AtExit (ended_of 1 chosen-kinds.ps chosen-kinds.r) κs) where
  pub one_chosen : chosen.Post κs a x s → chosen.Post κs a y t → x.now ≡ y.now
  one_chosen p q = p ∙ sym q
