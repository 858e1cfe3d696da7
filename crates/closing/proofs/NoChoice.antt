-- No public function's promise leaves a choice: for the same arguments, any two results that it admits are equal, and so is the
-- lent room at exit.
use mathlib.Core.Path.{◌≡◌, sym, ◌∙◌}
use borrow.Fn.Kinds.{Dens, res_t, ended_of}
use denote.Triple.Clauses.{AtExit}
use Rattle.basics.proofs.Choice.{OneResult}
use Rattle.closing.proofs.close.Kinds as close-kinds
use Rattle.closing.proofs.close.Reads as closes
use contract.Lifetimes.{Lfts}

pub one_close : OneResult close-kinds.ps close-kinds.r closes.Post
one_close κs a x y s t p q = p.answer ∙ sym q.answer

-- the room at exit is the first
module _ (κs : Lfts 1) (a : Dens κs close-kinds.ps) (x y : (res_t close-kinds.r κs).Denot) (s t : AtExit (ended_of 1 close-kinds.ps close-kinds.r) κs) where
  pub one_close_room : closes.Post κs a x s → closes.Post κs a y t → s.0.now ≡ t.0.now
  one_close_room p q = p.leaves ∙ sym q.leaves
