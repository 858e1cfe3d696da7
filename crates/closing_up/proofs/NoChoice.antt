-- No public function's promise leaves a choice: for the same arguments, any two results that it admits are equal, and so is the
-- lent room at exit.
use mathlib.Core.Path.{◌≡◌, sym, ◌∙◌}
use borrow.Fn.Kinds.{Dens, res_t, ended_of}
use denote.Triple.Clauses.{AtExit}
use Rattle.basics.proofs.Choice.{OneResult}
use Rattle.closing_up.proofs.close_up.Kinds as close-up-kinds
use Rattle.closing_up.proofs.close_up.Reads as close_up
use contract.Lifetimes.{Lfts}

pub one_close_up : OneResult close-up-kinds.ps close-up-kinds.r close_up.Post
one_close_up κs a x y s t p q = p.next ∙ sym q.next

-- the room at exit is the first
module _ (κs : Lfts 1) (a : Dens κs close-up-kinds.ps) (x y : (res_t close-up-kinds.r κs).Denot) (s t : AtExit (ended_of 1 close-up-kinds.ps close-up-kinds.r) κs) where
  pub one_close_up_room : close_up.Post κs a x s → close_up.Post κs a y t → s.0.now ≡ t.0.now
  one_close_up_room p q = p.leaves ∙ sym q.leaves
