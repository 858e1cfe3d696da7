-- What every visit keeps, and the bound on a code rests on: an addition has at most two bytes, at most three bytes are passed
-- over, and at place 0 a second byte is added only where a byte that stands in the word is passed over. proofs/Bound.antt and
-- proofs/Front.antt show it of the table.
use Rattle.std.specs.Prelude.{ℕ, ◌+◌, ◌-◌, ◌≤◌, min, List, [], ◌∷◌, length}
use Rattle.outcome.specs.declared.Add.{Add}
use Rattle.outcome.specs.declared.Add.TheVariants.{Nothing, One, Two}
use Rattle.outcome.specs.declared.Visit.{Visit}

-- the bytes of an addition
abbrev pub bytes_of : Add → List ℕ
bytes_of Nothing = []
bytes_of (One a) = a ∷ []
bytes_of (Two a b) = a ∷ b ∷ []

-- at any place
pub record Short (v : Visit) : Type 0 where
  pub primary : length (bytes_of v.primary) ≤ 2
  pub alternate : length (bytes_of v.alternate) ≤ 2
  pub over : v.over ≤ 3

-- at place 0 of a word of `t` bytes
pub record AtFront (t : ℕ) (v : Visit) : Type 0 where
  pub primary : length (bytes_of v.primary) ≤ 1 + min v.over (t - 1)
  pub alternate : length (bytes_of v.alternate) ≤ 1 + min v.over (t - 1)
