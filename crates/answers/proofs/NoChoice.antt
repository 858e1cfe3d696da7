-- No public function's promise leaves a choice: for the same arguments, any two results, and any two lent arrays at exit,
-- that it admits are equal.
use mathlib.Core.Path.{◌≡◌, sym, ◌∙◌}
use borrow.Fn.Kinds.{Dens, res_t, ended_of}
use denote.Triple.Clauses.{AtExit}
use Rattle.basics.proofs.Choice.{OneResult}
use Rattle.answers.proofs.Refusal.place.Kinds as place-kinds
use Rattle.answers.proofs.Refusal.place.Reads as place
use Rattle.answers.proofs.U8FromRefusal.from.Kinds as number-kinds
use Rattle.answers.proofs.U8FromRefusal.from.Reads as number
use Rattle.answers.proofs.FaultFromRefusal.from.Kinds as fault-kinds
use Rattle.answers.proofs.FaultFromRefusal.from.Reads as fault
use Rattle.answers.proofs.CallRefusalFromUnknownEdition.from.Kinds as unknown-kinds
use Rattle.answers.proofs.CallRefusalFromUnknownEdition.from.Reads as unknown
use Rattle.answers.proofs.CallRefusalFromRefusal.from.Kinds as refused-kinds
use Rattle.answers.proofs.CallRefusalFromRefusal.from.Reads as refused
use Rattle.answers.proofs.U8FromWord.from.Kinds as word-kinds
use Rattle.answers.proofs.U8FromWord.from.Reads as word
use Rattle.answers.proofs.tell_answer.Kinds as answer-kinds
use Rattle.answers.proofs.tell_answer.Reads as answer
use Rattle.answers.proofs.tell_reply.Kinds as reply-kinds
use Rattle.answers.proofs.tell_reply.Reads as reply
use Rattle.answers.proofs.tell_verdict.Kinds as verdict-kinds
use Rattle.answers.proofs.tell_verdict.Reads as verdict
use contract.Lifetimes.{Lfts}

module _ (κs : Lfts 1) (a : Dens κs answer-kinds.ps) (x y : (res_t answer-kinds.r κs).Denot) (s t : AtExit (ended_of 1 answer-kinds.ps answer-kinds.r) κs) where
  pub one_answer : answer.Post κs a x s → answer.Post κs a y t → s.1.0.now ≡ t.1.0.now
  one_answer p q = p ∙ sym q

module _ (κs : Lfts 1) (a : Dens κs reply-kinds.ps) (x y : (res_t reply-kinds.r κs).Denot) (s t : AtExit (ended_of 1 reply-kinds.ps reply-kinds.r) κs) where
  pub one_reply : reply.Post κs a x s → reply.Post κs a y t → s.1.0.now ≡ t.1.0.now
  one_reply p q = p ∙ sym q

module _ (κs : Lfts 1) (a : Dens κs verdict-kinds.ps) (x y : (res_t verdict-kinds.r κs).Denot) (s t : AtExit (ended_of 1 verdict-kinds.ps verdict-kinds.r) κs) where
  pub one_verdict : verdict.Post κs a x s → verdict.Post κs a y t → s.1.0.now ≡ t.1.0.now
  one_verdict p q = p ∙ sym q

pub one_place : OneResult place-kinds.ps place-kinds.r place.Post
one_place κs a x y s t p q = p ∙ sym q

-- the conversions
pub one_number : OneResult number-kinds.ps number-kinds.r number.Post
one_number κs a x y s t p q = p ∙ sym q

pub one_fault : OneResult fault-kinds.ps fault-kinds.r fault.Post
one_fault κs a x y s t p q = p ∙ sym q

pub one_unknown : OneResult unknown-kinds.ps unknown-kinds.r unknown.Post
one_unknown κs a x y s t p q = p ∙ sym q

pub one_refused : OneResult refused-kinds.ps refused-kinds.r refused.Post
one_refused κs a x y s t p q = p ∙ sym q

pub one_word : OneResult word-kinds.ps word-kinds.r word.Post
one_word κs a x y s t p q = p ∙ sym q
