-- No public function's promise leaves a choice: for the same arguments, any two results, and any two lent arrays at exit,
-- that it admits are equal.
use mathlib.Core.Path.{◌≡◌, sym, ◌∙◌}
use borrow.Fn.Kinds.{Dens, res_t, ended_of}
use denote.Triple.Clauses.{AtExit}
use Rattle.telling_books.proofs.tell_made.Kinds as made-kinds
use Rattle.telling_books.proofs.tell_made.Reads as made
use Rattle.telling_books.proofs.tell_opened.Kinds as opened-kinds
use Rattle.telling_books.proofs.tell_opened.Reads as opened
use Rattle.telling_books.proofs.tell_step.Kinds as step-kinds
use Rattle.telling_books.proofs.tell_step.Reads as step
use Rattle.telling_books.proofs.tell_whole.Kinds as whole_Kinds
use Rattle.telling_books.proofs.tell_whole.Reads as whole
use Rattle.telling_books.proofs.tell_ended.Kinds as ended-kinds
use Rattle.telling_books.proofs.tell_ended.Reads as ended
use contract.Lifetimes.{Lfts}

module _ (κs : Lfts 1) (a : Dens κs made-kinds.ps) (x y : (res_t made-kinds.r κs).Denot) (s t : AtExit (ended_of 1 made-kinds.ps made-kinds.r) κs) where
  pub one_made : made.Post κs a x s → made.Post κs a y t → s.1.0.now ≡ t.1.0.now
  one_made p q = p ∙ sym q

module _ (κs : Lfts 1) (a : Dens κs opened-kinds.ps) (x y : (res_t opened-kinds.r κs).Denot) (s t : AtExit (ended_of 1 opened-kinds.ps opened-kinds.r) κs) where
  pub one_opened : opened.Post κs a x s → opened.Post κs a y t → s.1.0.now ≡ t.1.0.now
  one_opened p q = p ∙ sym q

module _ (κs : Lfts 1) (a : Dens κs step-kinds.ps) (x y : (res_t step-kinds.r κs).Denot) (s t : AtExit (ended_of 1 step-kinds.ps step-kinds.r) κs) where
  pub one_step : step.Post κs a x s → step.Post κs a y t → s.1.0.now ≡ t.1.0.now
  one_step p q = p ∙ sym q

module _ (κs : Lfts 1) (a : Dens κs whole_Kinds.ps) (x y : (res_t whole_Kinds.r κs).Denot) (s t : AtExit (ended_of 1 whole_Kinds.ps whole_Kinds.r) κs) where
  pub one_whole : whole.Post κs a x s → whole.Post κs a y t → s.1.0.now ≡ t.1.0.now
  one_whole p q = p ∙ sym q

module _ (κs : Lfts 1) (a : Dens κs ended-kinds.ps) (x y : (res_t ended-kinds.r κs).Denot) (s t : AtExit (ended_of 1 ended-kinds.ps ended-kinds.r) κs) where
  pub one_ended : ended.Post κs a x s → ended.Post κs a y t → s.1.0.now ≡ t.1.0.now
  one_ended p q = p ∙ sym q
