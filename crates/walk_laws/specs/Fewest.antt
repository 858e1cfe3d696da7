-- How many visits a limit leaves, said without a walk (demand 3): the fewest after which both unlimited codes have n bytes, or
-- all. There is only one such number (`fewest_one` in proofs/Limit.antt).
use Rattle.std.specs.Prelude.{ℕ, ◌≤◌, ◌<◌, List, length, take}
use Rattle.walk.specs.Walk.{joined}

-- after the first k visits both codes have at least n bytes
pub record Full (g h : ℕ → List ℕ) (ps : List ℕ) (n k : ℕ) : Type 0 where
  pub primary : n ≤ length (joined g (take k ps))
  pub alternate : n ≤ length (joined h (take k ps))

pub record Fewest (g h : ℕ → List ℕ) (ps : List ℕ) (n k : ℕ) : Type 0 where
  pub within : k ≤ length ps
  pub none_fewer : (j : ℕ) → j < k → Full g h ps n j → ⊥
  pub full_or_all : k < length ps → Full g h ps n k
