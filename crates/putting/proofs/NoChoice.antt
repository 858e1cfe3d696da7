-- No public function's promise leaves a choice: for the same arguments, any two results that it admits are equal, and so is the
-- lent room at exit.
use mathlib.Core.Path.{◌≡◌, sym, ◌∙◌}
use borrow.Fn.Kinds.{Dens, res_t, ended_of}
use denote.Triple.Clauses.{AtExit}
use Rattle.basics.proofs.Choice.{OneResult}
use Rattle.putting.proofs.header_size.Kinds as header-size-kinds
use Rattle.putting.proofs.header_size.Reads as header-size
use Rattle.putting.proofs.put_header.Kinds as put-header-kinds
use Rattle.putting.proofs.put_header.Reads as put-header
use Rattle.putting.proofs.NewRecord.put_entry.Kinds as put-entry-kinds
use Rattle.putting.proofs.NewRecord.put_entry.Reads as put-entry
use Rattle.putting.proofs.NewRecord.entry_size.Kinds as entry-size-kinds
use Rattle.putting.proofs.NewRecord.entry_size.Reads as entry-size
use contract.Lifetimes.{Lfts}

pub one_header_size : OneResult header-size-kinds.ps header-size-kinds.r header-size.Post
one_header_size κs a x y s t p q = p ∙ sym q

pub one_put_header : OneResult put-header-kinds.ps put-header-kinds.r put-header.Post
one_put_header κs a x y s t p q = p.next ∙ sym q.next

-- the room at exit
module _ (κs : Lfts 1) (a : Dens κs put-header-kinds.ps) (x y : (res_t put-header-kinds.r κs).Denot) (s t : AtExit (ended_of 1 put-header-kinds.ps put-header-kinds.r) κs) where
  pub one_put_header_room : put-header.Post κs a x s → put-header.Post κs a y t → s.0.now ≡ t.0.now
  one_put_header_room p q = p.leaves ∙ sym q.leaves

pub one_put_entry : OneResult put-entry-kinds.ps put-entry-kinds.r put-entry.Post
one_put_entry κs a x y s t p q = p.next ∙ sym q.next

-- the record comes before the room
module _ (κs : Lfts 2) (a : Dens κs put-entry-kinds.ps) (x y : (res_t put-entry-kinds.r κs).Denot) (s t : AtExit (ended_of 2 put-entry-kinds.ps put-entry-kinds.r) κs) where
  pub one_put_entry_room : put-entry.Post κs a x s → put-entry.Post κs a y t → s.1.0.now ≡ t.1.0.now
  one_put_entry_room p q = p.leaves ∙ sym q.leaves

pub one_entry_size : OneResult entry-size-kinds.ps entry-size-kinds.r entry-size.Post
one_entry_size κs a x y s t p q = p ∙ sym q
