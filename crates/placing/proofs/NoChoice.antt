-- No public function's promise leaves a choice: for the same arguments, any two results that it admits are equal, and so is the
-- lent room at exit.
use mathlib.Core.Path.{◌≡◌, sym, ◌∙◌}
use borrow.Fn.Kinds.{Dens, res_t, ended_of}
use denote.Triple.Clauses.{AtExit}
use Rattle.basics.proofs.Choice.{OneResult}
use Rattle.placing.proofs.station_from.Kinds as station-from-kinds
use Rattle.placing.proofs.station_from.Reads as station-from
use Rattle.placing.proofs.append_coded.Kinds as append-coded-kinds
use Rattle.placing.proofs.append_coded.Reads as append-coded
use contract.Lifetimes.{Lfts}

pub one_station_from : OneResult station-from-kinds.ps station-from-kinds.r station-from.Post
one_station_from κs a x y s t p q = p ∙ sym q

pub one_append_coded : OneResult append-coded-kinds.ps append-coded-kinds.r append-coded.Post
one_append_coded κs a x y s t p q = p.answer ∙ sym q.answer

-- the room at exit
module _ (κs : Lfts 2) (a : Dens κs append-coded-kinds.ps) (x y : (res_t append-coded-kinds.r κs).Denot) (s t : AtExit (ended_of 2 append-coded-kinds.ps append-coded-kinds.r) κs) where
  pub one_append_coded_room : append-coded.Post κs a x s → append-coded.Post κs a y t → s.0.now ≡ t.0.now
  one_append_coded_room p q = p.leaves ∙ sym q.leaves
