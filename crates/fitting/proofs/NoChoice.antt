-- No public function's promise leaves a choice: for the same arguments, any two results that it admits are equal, and so is the
-- lent room at exit.
use mathlib.Core.Path.{◌≡◌, sym, ◌∙◌}
use borrow.Fn.Kinds.{Dens, res_t, ended_of}
use denote.Triple.Clauses.{AtExit}
use Rattle.basics.proofs.Choice.{OneResult}
use Rattle.fitting.proofs.add_coded.Kinds as add-coded-kinds
use Rattle.fitting.proofs.add_coded.Reads as add-coded
use contract.Lifetimes.{Lfts}

pub one_add_coded : OneResult add-coded-kinds.ps add-coded-kinds.r add-coded.Post
one_add_coded κs a x y s t p q = p.answer ∙ sym q.answer

-- the room at exit
module _ (κs : Lfts 2) (a : Dens κs add-coded-kinds.ps) (x y : (res_t add-coded-kinds.r κs).Denot) (s t : AtExit (ended_of 2 add-coded-kinds.ps add-coded-kinds.r) κs) where
  pub one_add_coded_room : add-coded.Post κs a x s → add-coded.Post κs a y t → s.0.now ≡ t.0.now
  one_add_coded_room p q = p.leaves ∙ sym q.leaves
