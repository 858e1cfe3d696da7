-- The walk over a word (document 01, "Preparing the word"), for any rule `v` that says what the visit at a place adds and passes
-- over: the places visited, what they add, the walk with no limit and under one. `cut` and `fewest` in crates/walk_laws/proofs/Limit.antt say how
-- the two walks relate, for every rule.
use Rattle.std.specs.Prelude.{ℕ, zero, suc, ◌-◌, max, List, [], ◌∷◌, ◌++◌, cond, length, take, drop, eqb}
use Rattle.outcome.specs.declared.Visit.{Visit}
use Rattle.rules.specs.Kept.{bytes_of}
use Rattle.tally.specs.declared.Tally.{Tally}

-- the places visited among the `left` bytes from place `at` on, of which the first `skip` are passed over
abbrev pub places : (ℕ → Visit) → ℕ → ℕ → ℕ → List ℕ
places v at skip zero = []
places v at zero (suc left) = at ∷ places v (suc at) (v at).over left
places v at (suc skip) (suc left) = places v (suc at) skip left

-- what the visits at these places add, joined
abbrev pub joined : (ℕ → List ℕ) → List ℕ → List ℕ
joined g [] = []
joined g (p ∷ ps) = g p ++ joined g ps

abbrev pub to_primary : (ℕ → Visit) → ℕ → List ℕ
to_primary v p = bytes_of (v p).primary

abbrev pub to_alternate : (ℕ → Visit) → ℕ → List ℕ
to_alternate v p = bytes_of (v p).alternate

-- what a walk gives
pub record Coded : Type 0 where
  pub primary : List ℕ
  pub alternate : List ℕ
  pub visits : ℕ

abbrev pub ended : Coded
ended = record { primary = []; alternate = []; visits = 0 }

-- one visit more, which adds x and y, before the rest
abbrev pub after : List ℕ → List ℕ → Coded → Coded
after x y c = record { primary = x ++ c.primary; alternate = y ++ c.alternate; visits = suc c.visits }

-- the walk under a limit, where the codes may still take n and m bytes: it ends before the next visit once both may
-- take none, and an addition is clipped to what may be taken
abbrev pub limited : (ℕ → List ℕ) → (ℕ → List ℕ) → ℕ → ℕ → List ℕ → Coded
limited g h n m [] = ended
limited g h n m (p ∷ ps) =
    cond (eqb (max n m) 0) ended
    (after (take n (g p)) (take m (h p)) (limited g h (n - length (g p)) (m - length (h p)) ps))

-- the walk with no limit
abbrev pub whole : (ℕ → List ℕ) → (ℕ → List ℕ) → List ℕ → Coded
whole g h ps = record { primary = joined g ps; alternate = joined h ps; visits = length ps }

-- the numbers of a walk
abbrev pub tally_of : Coded → Tally
tally_of c = record { primary = length c.primary; alternate = length c.alternate; visits = c.visits }

-- a code at the front of a buffer, behind which the buffer keeps what it held
abbrev pub filled : List ℕ → List ℕ → List ℕ
filled code buf = code ++ drop (length code) buf
