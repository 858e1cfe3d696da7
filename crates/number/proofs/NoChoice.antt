-- No public function's promise leaves a choice: for the same arguments, any two results that it admits are equal, and so is the
-- lent room at exit.
use mathlib.Core.Path.{◌≡◌, sym, ◌∙◌}
use borrow.Fn.Kinds.{Dens, res_t, ended_of}
use denote.Triple.Clauses.{AtExit}
use Rattle.basics.proofs.Choice.{OneResult}
use Rattle.number.proofs.read_number.Kinds as read-number-kinds
use Rattle.number.proofs.read_number.Reads as read_number
use Rattle.number.proofs.width.Kinds as width-kinds
use Rattle.number.proofs.width.Reads as width
use Rattle.number.proofs.write_number.Kinds as write-number-kinds
use Rattle.number.proofs.write_number.Reads as write-number
use contract.Lifetimes.{Lfts}

pub one_read_number : OneResult read-number-kinds.ps read-number-kinds.r read_number.Post
one_read_number κs a x y s t p q = p ∙ sym q

pub one_width : OneResult width-kinds.ps width-kinds.r width.Post
one_width κs a x y s t p q = p ∙ sym q

pub one_write_number : OneResult write-number-kinds.ps write-number-kinds.r write-number.Post
one_write_number κs a x y s t p q = p.0 ∙ sym q.0

-- the room at exit is the first
module _ (κs : Lfts 1) (a : Dens κs write-number-kinds.ps) (x y : (res_t write-number-kinds.r κs).Denot) (s t : AtExit (ended_of 1 write-number-kinds.ps write-number-kinds.r) κs) where
  pub one_room : write-number.Post κs a x s → write-number.Post κs a y t → s.0.now ≡ t.0.now
  one_room p q = p.1 ∙ sym q.1
