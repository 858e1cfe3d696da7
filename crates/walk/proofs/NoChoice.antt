-- No public function's promise leaves a choice: for the same arguments, any two results that it admits are equal, and so are the
-- lent buffers at exit.
use mathlib.Core.Path.{◌≡◌, sym, ◌∙◌}
use borrow.Fn.Kinds.{Dens, res_t, ended_of}
use denote.Triple.Clauses.{AtExit}
use Rattle.walk.proofs.walk.Kinds as walk-kinds
use Rattle.walk.proofs.walk.Reads as walk
use contract.Lifetimes.{Lfts}

-- the word, the edition, the limit and the two buffers: the buffers at exit are the fourth and the fifth
module _ (κs : Lfts 3) (a : Dens κs walk-kinds.ps) (x y : (res_t walk-kinds.r κs).Denot) (s t : AtExit (ended_of 3 walk-kinds.ps walk-kinds.r) κs) where
  pub one_walk : walk.Post κs a x s → walk.Post κs a y t → (x ≡ y) × ((s.1.1.1.0.now ≡ t.1.1.1.0.now) × (s.1.1.1.1.0.now ≡ t.1.1.1.1.0.now))
  one_walk p q = (p.0 ∙ sym q.0, (p.1.0 ∙ sym q.1.0, p.1.1 ∙ sym q.1.1))
