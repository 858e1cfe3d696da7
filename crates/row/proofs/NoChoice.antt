-- No public function's promise leaves a choice: for the same arguments, any two rooms at exit that it admits are equal.
use mathlib.Core.Path.{◌≡◌, sym, ◌∙◌}
use borrow.Fn.Kinds.{Dens, res_t, ended_of}
use denote.Triple.Clauses.{AtExit}
use Rattle.row.proofs.put_row.Kinds as put-row-kinds
use Rattle.row.proofs.put_row.Reads as put-row
use contract.Lifetimes.{Lfts}

module _ (κs : Lfts 1) (a : Dens κs put-row-kinds.ps) (x y : (res_t put-row-kinds.r κs).Denot) (s t : AtExit (ended_of 1 put-row-kinds.ps put-row-kinds.r) κs) where
  pub one_put_row_room : put-row.Post κs a x s → put-row.Post κs a y t → s.0.now ≡ t.0.now
  one_put_row_room p q = p ∙ sym (q)
