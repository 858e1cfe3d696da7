-- No public function's promise leaves a choice: for the same arguments, any two results that it admits are equal, and so is the
-- lent room at exit.
use mathlib.Core.Path.{◌≡◌, sym, ◌∙◌}
use borrow.Fn.Kinds.{Dens, res_t, ended_of}
use denote.Triple.Clauses.{AtExit}
use Rattle.basics.proofs.Choice.{OneResult}
use Rattle.fields.proofs.number_at.Kinds as number-at-kinds
use Rattle.fields.proofs.number_at.Reads as number_at
use Rattle.fields.proofs.bytes_at.Kinds as bytes-at-kinds
use Rattle.fields.proofs.bytes_at.Reads as bytes-at
use Rattle.fields.proofs.text_at.Kinds as text-at-kinds
use Rattle.fields.proofs.text_at.Reads as text_at
use Rattle.fields.proofs.text_size.Kinds as text-size-kinds
use Rattle.fields.proofs.text_size.Reads as text_size_lem
use Rattle.fields.proofs.put_number.Kinds as put-number-kinds
use Rattle.fields.proofs.put_number.Reads as put-number
use Rattle.fields.proofs.put_text.Kinds as put-text-kinds
use Rattle.fields.proofs.put_text.Reads as put-text
use contract.Lifetimes.{Lfts}

pub one_number_at : OneResult number-at-kinds.ps number-at-kinds.r number_at.Post
one_number_at κs a x y s t p q = p ∙ sym q

pub one_bytes_at : OneResult bytes-at-kinds.ps bytes-at-kinds.r bytes-at.Post
one_bytes_at κs a x y s t p q = p ∙ sym q

pub one_text_at : OneResult text-at-kinds.ps text-at-kinds.r text_at.Post
one_text_at κs a x y s t p q = p ∙ sym q

pub one_text_size : OneResult text-size-kinds.ps text-size-kinds.r text_size_lem.Post
one_text_size κs a x y s t p q = p ∙ sym q

pub one_put_number : OneResult put-number-kinds.ps put-number-kinds.r put-number.Post
one_put_number κs a x y s t p q = p.next ∙ sym q.next

pub one_put_text : OneResult put-text-kinds.ps put-text-kinds.r put-text.Post
one_put_text κs a x y s t p q = p.next ∙ sym q.next

-- the room at exit is the first
module _ (κs : Lfts 1) (a : Dens κs put-number-kinds.ps) (x y : (res_t put-number-kinds.r κs).Denot) (s t : AtExit (ended_of 1 put-number-kinds.ps put-number-kinds.r) κs) where
  pub one_number_room : put-number.Post κs a x s → put-number.Post κs a y t → s.0.now ≡ t.0.now
  one_number_room p q = p.leaves ∙ sym q.leaves

module _ (κs : Lfts 2) (a : Dens κs put-text-kinds.ps) (x y : (res_t put-text-kinds.r κs).Denot) (s t : AtExit (ended_of 2 put-text-kinds.ps put-text-kinds.r) κs) where
  pub one_text_room : put-text.Post κs a x s → put-text.Post κs a y t → s.0.now ≡ t.0.now
  one_text_room p q = p.leaves ∙ sym q.leaves
