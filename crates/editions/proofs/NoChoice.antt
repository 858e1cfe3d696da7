-- No public function's promise leaves a choice: for the same arguments, any two results that it admits are equal, and so are the
-- lent buffers at exit.
use mathlib.Core.Path.{◌≡◌, sym, ◌∙◌}
use borrow.Fn.Kinds.{Dens, res_t, ended_of}
use denote.Triple.Clauses.{AtExit}
use Rattle.editions.proofs.encode_in.Kinds as encode-in-kinds
use Rattle.editions.proofs.encode_in.Reads as encode-in
use contract.Lifetimes.{Lfts}

-- the number, the limit, the word and the two buffers: the buffers at exit are the fourth and the fifth
module _ (κs : Lfts 3) (a : Dens κs encode-in-kinds.ps) (x y : (res_t encode-in-kinds.r κs).Denot) (s t : AtExit (ended_of 3 encode-in-kinds.ps encode-in-kinds.r) κs)
    (p : encode-in.Post κs a x s) (q : encode-in.Post κs a y t) where
  pub one_encode_in : x ≡ y
  one_encode_in = p.answer ∙ sym q.answer

  pub one_primary_in : s.1.1.1.0.now ≡ t.1.1.1.0.now
  one_primary_in = p.primary ∙ rw one_encode_in (sym q.primary)

  pub one_alternate_in : s.1.1.1.1.0.now ≡ t.1.1.1.1.0.now
  one_alternate_in = p.alternate ∙ rw one_encode_in (sym q.alternate)
