-- No public function's promise leaves a choice: for the same arguments, any two results that it admits are equal, and so is the
-- lent room at exit.
use mathlib.Core.Path.{◌≡◌, sym, ◌∙◌}
use borrow.Fn.Kinds.{Dens, res_t, ended_of}
use denote.Triple.Clauses.{AtExit}
use Rattle.additions.proofs.put.Kinds as put-kinds
use Rattle.additions.proofs.put.Reads as put
use contract.Lifetimes.{Lfts}

module _ (κs : Lfts 1) (a : Dens κs put-kinds.ps) (x y : (res_t put-kinds.r κs).Denot) (s t : AtExit (ended_of 1 put-kinds.ps put-kinds.r) κs) where
  pub one_put_room : put.Post κs a x s → put.Post κs a y t → s.0.now ≡ t.0.now
  one_put_room p q = p ∙ sym (q)
