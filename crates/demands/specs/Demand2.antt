-- Demand 2: "for every ASCII word of at most 1,024 bytes whose buffers aren't refused, both codes are those of the rules", each
-- "at the front of its buffer; later bytes keep what they held". The rules are those of the definition's walk, every visit of
-- it; proofs/Demand2.antt shows that what `encode` promises is this, under each edition.
use Rattle.std.specs.Prelude.{ℕ, ◌≤◌, ◌<◌, ◌≡◌, List, length, get_or, Ok}
use Rattle.walk.specs.Walk.{filled}
use Rattle.terms.specs.declared.Edition.{Edition}
use Rattle.terms.specs.Limits.{Limit}
use Rattle.trimming.specs.Trim.{trimmed}
use Rattle.terms.specs.Limits.{word_limit}
use Rattle.needs.specs.Needs.{need_of}
use Rattle.encoder.specs.Encode.{Answer, walk_of}

-- the words that are taken
pub record Taken (w : List ℕ) : Type 0 where
  pub fits : length w ≤ word_limit
  pub ascii : (k : ℕ) → k < length w → get_or w k 0 < 128

-- with enough room they are accepted
pub record Accepted (l : Limit) (w p a : List ℕ) : Type 0 where
  pub taken : Taken w
  pub primary : need_of l (length (trimmed w)) ≤ length p
  pub alternate : need_of l (length (trimmed w)) ≤ length a

-- what they get
pub record Walked (ed : Edition) (l : Limit) (w p a : List ℕ) (r : Answer) (p' a' : List ℕ) : Type 0 where
  pub answer : r ≡ Ok (record { primary = length (walk_of ed l (trimmed w)).primary; alternate = length (walk_of ed l (trimmed w)).alternate; visits = (walk_of ed l (trimmed w)).visits })
  pub primary : p' ≡ filled (walk_of ed l (trimmed w)).primary p
  pub alternate : a' ≡ filled (walk_of ed l (trimmed w)).alternate a
