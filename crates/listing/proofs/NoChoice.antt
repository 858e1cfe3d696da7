-- The listing's promise leaves no choice: for the same arguments, any two answers that it admits are equal, and so are the rooms at exit.
use mathlib.Core.Path.{◌≡◌, sym, ◌∙◌}
use borrow.Fn.Kinds.{Dens, res_t, ended_of}
use denote.Triple.Clauses.{AtExit}
use Rattle.basics.proofs.Choice.{OneResult}
use Rattle.listing.proofs.Unlisted.place.Kinds as place-kinds
use Rattle.listing.proofs.Unlisted.place.Reads as place
use Rattle.listing.proofs.UnlistedFromCallRefusal.from.Kinds as unlisted-kinds
use Rattle.listing.proofs.UnlistedFromCallRefusal.from.Reads as unlisted
use Rattle.listing.proofs.FaultFromUnlisted.from.Kinds as fault-kinds
use Rattle.listing.proofs.FaultFromUnlisted.from.Reads as fault
use Rattle.listing.proofs.explain.Kinds as explain-kinds
use Rattle.listing.proofs.explain.Reads as explain
use contract.Lifetimes.{Lfts}

-- the edition, the limit, the word and the room: the room at exit is the fourth
module _ (κs : Lfts 2) (a : Dens κs explain-kinds.ps) (x y : (res_t explain-kinds.r κs).Denot) (s t : AtExit (ended_of 2 explain-kinds.ps explain-kinds.r) κs)
    (p : explain.Post κs a x s) (q : explain.Post κs a y t) where
  pub one_explain : x ≡ y
  one_explain = p.answer ∙ sym q.answer

  pub one_room : s.1.1.1.0.now ≡ t.1.1.1.0.now
  one_room = p.rows ∙ sym q.rows

pub one_place : OneResult place-kinds.ps place-kinds.r place.Post
one_place κs a x y s t p q = p ∙ sym q

-- the conversions
pub one_unlisted : OneResult unlisted-kinds.ps unlisted-kinds.r unlisted.Post
one_unlisted κs a x y s t p q = p ∙ sym q

pub one_fault : OneResult fault-kinds.ps fault-kinds.r fault.Post
one_fault κs a x y s t p q = p ∙ sym q
