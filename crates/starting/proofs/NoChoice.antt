-- No public function's promise leaves a choice: for the same arguments, any two results that it admits are equal, and so is the
-- lent room at exit.
use mathlib.Core.Path.{◌≡◌, sym, ◌∙◌}
use borrow.Fn.Kinds.{Dens, res_t, ended_of}
use denote.Triple.Clauses.{AtExit}
use Rattle.basics.proofs.Choice.{OneResult}
use Rattle.starting.proofs.start.Kinds as start-kinds
use Rattle.starting.proofs.start.Reads as start
use contract.Lifetimes.{Lfts}

pub one_start : OneResult start-kinds.ps start-kinds.r start.Post
one_start κs a x y s t p q = p.answer ∙ sym q.answer

-- the room at exit is the first
module _ (κs : Lfts 1) (a : Dens κs start-kinds.ps) (x y : (res_t start-kinds.r κs).Denot) (s t : AtExit (ended_of 1 start-kinds.ps start-kinds.r) κs) where
  pub one_start_room : start.Post κs a x s → start.Post κs a y t → s.0.now ≡ t.0.now
  one_start_room p q = p.leaves ∙ sym q.leaves
