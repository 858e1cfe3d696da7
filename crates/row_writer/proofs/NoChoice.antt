-- No public function's promise leaves a choice: for the same arguments, any two results that it admits are equal, and so is the
-- lent room at exit.
use mathlib.Core.Path.{◌≡◌, sym, ◌∙◌}
use borrow.Fn.Kinds.{Dens, res_t, ended_of}
use denote.Triple.Clauses.{AtExit}
use Rattle.row_writer.proofs.put_rows.Kinds as put-rows-kinds
use Rattle.row_writer.proofs.put_rows.Reads as put-rows
use contract.Lifetimes.{Lfts}

module _ (κs : Lfts 2) (a : Dens κs put-rows-kinds.ps) (x y : (res_t put-rows-kinds.r κs).Denot) (s t : AtExit (ended_of 2 put-rows-kinds.ps put-rows-kinds.r) κs) where
  pub one_put_rows_room : put-rows.Post κs a x s → put-rows.Post κs a y t → s.1.1.1.0.now ≡ t.1.1.1.0.now
  one_put_rows_room p q = p ∙ sym (q)
