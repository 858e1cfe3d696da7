-- What the walk asks of a rule, any rule, for the bound on its codes (document 01, demand 3): short additions, and at place 0 of a
-- word of `t` bytes a second byte only where a byte that stands there is passed over. The letter rules keep it (`rule_keeps` in
-- proofs/Bound.antt).
use Rattle.std.specs.Prelude.{ℕ}
use Rattle.outcome.specs.declared.Visit.{Visit}
use Rattle.rules.specs.Kept.{Short, AtFront}

pub record Keeps (t : ℕ) (v : ℕ → Visit) : Type 0 where
  pub short : (p : ℕ) → Short (v p)
  pub front : AtFront t (v 0)
