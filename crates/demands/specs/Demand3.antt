-- Demand 3, of a trimmed word t under an edition: "Under limit n each code is the first n bytes of its unlimited code, or all of it if shorter",
-- the visits are "the fewest after which both unlimited codes have at least n bytes, or all", and 2t - 1 bytes bound a code and
-- are reached. It is stated on demand 2's walk; theorems `code_unlimited`, `code_limited`, `code_limited_one`, `code_reaches` of proofs/Demand3.antt.
use Rattle.std.specs.Prelude.{ℕ, ◌-◌, ◌*◌, ◌≤◌, ◌≡◌, List, length, take}
use Rattle.walk.specs.Walk.{joined, to_primary, to_alternate}
use Rattle.walk_laws.specs.Fewest.{Fewest}
use Rattle.walk.specs.Word.{rule_of, visits_of}
use Rattle.terms.specs.declared.Edition.{Edition}
use Rattle.std.specs.Prelude.{Some, None}
use Rattle.trimming.specs.Trim.{trimmed}
use Rattle.ascii.specs.High.{first_high}
use Rattle.terms.specs.Limits.{word_limit}
use Rattle.encoder.specs.Encode.{primary_of, alternate_of, visits_under}

-- with no limit: what all visits add, in at most 2t - 1 bytes (none for t = 0)
pub record Unlimited (ed : Edition) (t : List ℕ) : Type 0 where
  pub primary : primary_of ed None t ≡ joined (to_primary (rule_of ed t)) (visits_of ed t)
  pub alternate : alternate_of ed None t ≡ joined (to_alternate (rule_of ed t)) (visits_of ed t)
  pub visits : visits_under ed None t ≡ length (visits_of ed t)
  pub primary_bound : length (primary_of ed None t) ≤ 2 * length t - 1
  pub alternate_bound : length (alternate_of ed None t) ≤ 2 * length t - 1

-- under the limit n: the first n bytes, after the fewest visits that give both codes n bytes, or all
pub record Limited (ed : Edition) (n : ℕ) (t : List ℕ) : Type 0 where
  pub primary : primary_of ed (Some n) t ≡ take n (primary_of ed None t)
  pub alternate : alternate_of ed (Some n) t ≡ take n (alternate_of ed None t)
  pub visits : Fewest (to_primary (rule_of ed t)) (to_alternate (rule_of ed t)) (visits_of ed t) n (visits_under ed (Some n) t)

-- an accepted word that trims to t bytes and whose alternate code reaches the bound
pub record Reaches (ed : Edition) (t : ℕ) (w : List ℕ) : Type 0 where
  pub fits : length w ≤ word_limit
  pub ascii : first_high w ≡ length w
  pub long : length (trimmed w) ≡ t
  pub reached : length (alternate_of ed None (trimmed w)) ≡ 2 * t - 1
