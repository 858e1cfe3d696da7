-- How far a rule can see (document 02, L8): two words that agree where a visit at place `p` can look. proofs/Local.antt shows that
-- such a visit, at a place of at least 1, adds and passes over the same in both.
use Rattle.std.specs.Prelude.{ℕ, ◌+◌, ◌≤◌, ◌<◌, List, ◌≡◌, length, get_or}

-- of equal length, they agree at their first six and last two bytes, and from four before the place to four after; `u` and `v`
-- are in capitals, which puts letter case aside
pub record Agree (u v : List ℕ) (p : ℕ) : Type 0 where
  pub long : length u ≡ length v
  pub start : (i : ℕ) → i < 6 → get_or u i 0 ≡ get_or v i 0
  pub end : (i : ℕ) → length u ≤ i + 2 → get_or u i 0 ≡ get_or v i 0
  pub about : (i : ℕ) → p ≤ i + 4 → i ≤ p + 4 → get_or u i 0 ≡ get_or v i 0
