-- The exported function's promise leaves no choice: for the same arguments, any two answers and any two rooms at exit that it admits are
-- equal.
use mathlib.Core.Path.{◌≡◌, sym, ◌∙◌}
use borrow.Fn.Kinds.{Dens, res_t, ended_of}
use denote.Triple.Clauses.{AtExit}
use Rattle.explain.proofs.simmerquilt_explain.Kinds as explain-kinds
use Rattle.explain.proofs.simmerquilt_explain.Reads as explain
use contract.Lifetimes.{Lfts}

-- the edition, the word, two numbers, the room and the answer: the room at exit is the fifth, the answer the sixth
module _ (κs : Lfts 3) (a : Dens κs explain-kinds.ps) (x y : (res_t explain-kinds.r κs).Denot) (s t : AtExit (ended_of 3 explain-kinds.ps explain-kinds.r) κs)
    (p : explain.Post κs a x s) (q : explain.Post κs a y t) where
  pub one_numbers : s.1.1.1.1.1.0.now ≡ t.1.1.1.1.1.0.now
  one_numbers = p.0 ∙ sym q.0

  pub one_room : s.1.1.1.1.0.now ≡ t.1.1.1.1.0.now
  one_room = p.1 ∙ sym q.1
