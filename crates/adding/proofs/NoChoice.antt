-- No public function's promise leaves a choice: for the same arguments, any two results that it admits are equal, and so is the
-- lent room at exit.
use mathlib.Core.Path.{◌≡◌, sym, ◌∙◌}
use borrow.Fn.Kinds.{Dens, res_t, ended_of}
use denote.Triple.Clauses.{AtExit}
use Rattle.basics.proofs.Choice.{OneResult}
use Rattle.adding.proofs.add.Kinds as add-kinds
use Rattle.adding.proofs.add.Reads as add
use contract.Lifetimes.{Lfts}

pub one_add : OneResult add-kinds.ps add-kinds.r add.Post
one_add κs a x y s t p q = p.answer ∙ sym q.answer

module _ (κs : Lfts 2) (a : Dens κs add-kinds.ps) (x y : (res_t add-kinds.r κs).Denot) (s t : AtExit (ended_of 2 add-kinds.ps add-kinds.r) κs) where
  pub one_add_room : add.Post κs a x s → add.Post κs a y t → s.0.now ≡ t.0.now
  one_add_room p q = p.leaves ∙ sym q.leaves
