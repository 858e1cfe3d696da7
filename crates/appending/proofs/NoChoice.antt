-- No public function's promise leaves a choice: for the same arguments, any two results that it admits are equal, and so is the
-- lent room at exit.
use mathlib.Core.Path.{◌≡◌, sym, ◌∙◌}
use borrow.Fn.Kinds.{Dens, res_t, ended_of}
use denote.Triple.Clauses.{AtExit}
use Rattle.basics.proofs.Choice.{OneResult}
use Rattle.appending.proofs.append.Kinds as append-kinds
use Rattle.appending.proofs.append.Reads as append
use contract.Lifetimes.{Lfts}

pub one_append : OneResult append-kinds.ps append-kinds.r append.Post
one_append κs a x y s t p q = p.answer ∙ sym q.answer

module _ (κs : Lfts 2) (a : Dens κs append-kinds.ps) (x y : (res_t append-kinds.r κs).Denot) (s t : AtExit (ended_of 2 append-kinds.ps append-kinds.r) κs) where
  pub one_append_room : append.Post κs a x s → append.Post κs a y t → s.0.now ≡ t.0.now
  one_append_room p q = p.leaves ∙ sym q.leaves
