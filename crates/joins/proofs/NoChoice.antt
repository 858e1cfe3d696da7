-- No public function's promise leaves a choice: for the same arguments, any two results, and any two lent arrays and buffers at exit,
-- that it admits are equal.
use mathlib.Core.Path.{◌≡◌, sym, ◌∙◌}
use borrow.Fn.Kinds.{Dens, res_t, ended_of}
use denote.Triple.Clauses.{AtExit}
use Rattle.joins.proofs.simmerquilt_join_scratch.Kinds as join-scratch-kinds
use Rattle.joins.proofs.simmerquilt_join_scratch.Reads as join-scratch
use Rattle.joins.proofs.simmerquilt_join_count.Kinds as join-count-kinds
use Rattle.joins.proofs.simmerquilt_join_count.Reads as join-count
use Rattle.joins.proofs.simmerquilt_join.Kinds as join-kinds
use Rattle.joins.proofs.simmerquilt_join.Reads as join
use contract.Lifetimes.{Lfts}

-- the join's: the number of words is a result; the scratch at exit is the fourth, the room the fifth, the answer the sixth
module _ (κs : Lfts 0) (a : Dens κs join-scratch-kinds.ps) (x y : (res_t join-scratch-kinds.r κs).Denot) (s t : AtExit (ended_of 0 join-scratch-kinds.ps join-scratch-kinds.r) κs) where
  pub one_words : join-scratch.Post κs a x s → join-scratch.Post κs a y t → x ≡ y
  one_words p q = p ∙ sym q

module _ (κs : Lfts 4) (a : Dens κs join-count-kinds.ps) (x y : (res_t join-count-kinds.r κs).Denot) (s t : AtExit (ended_of 4 join-count-kinds.ps join-count-kinds.r) κs)
    (p : join-count.Post κs a x s) (q : join-count.Post κs a y t) where
  pub one_count_numbers : s.1.1.1.1.1.0.now ≡ t.1.1.1.1.1.0.now
  one_count_numbers = p.0 ∙ sym q.0

  pub one_count_scratch : s.1.1.1.0.now ≡ t.1.1.1.0.now
  one_count_scratch = p.1 ∙ sym q.1

module _ (κs : Lfts 5) (a : Dens κs join-kinds.ps) (x y : (res_t join-kinds.r κs).Denot) (s t : AtExit (ended_of 5 join-kinds.ps join-kinds.r) κs)
    (p : join.Post κs a x s) (q : join.Post κs a y t) where
  pub one_join_numbers : s.1.1.1.1.1.0.now ≡ t.1.1.1.1.1.0.now
  one_join_numbers = p.0 ∙ sym q.0

  pub one_join_room : s.1.1.1.1.0.now ≡ t.1.1.1.1.0.now
  one_join_room = p.1.0 ∙ sym q.1.0

  pub one_join_scratch : s.1.1.1.0.now ≡ t.1.1.1.0.now
  one_join_scratch = p.1.1 ∙ sym q.1.1
