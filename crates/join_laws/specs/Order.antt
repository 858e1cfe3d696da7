-- The order of the pairs, and what it is to be among them: what proofs/Order.antt and proofs/Listing.antt show of a join.
use Rattle.std.specs.Prelude.{ℕ, ◌<◌, ◌≡◌, ◌⊎◌, length, get_or}
use mathlib.Core.List.{List, Memᴰ}
use Rattle.chosen.specs.declared.Choice.{Choice}
use Rattle.entry.specs.Entry.{Entry}
use Rattle.book.specs.Book.{Book}
use Rattle.matching.specs.Cut.{clip}
use Rattle.two_books.specs.Sides.{chosen_code, limits_of}

-- by the first number, then by the second
abbrev pub Before : ℕ × ℕ → ℕ × ℕ → Type 0
Before p q = (p.0 < q.0) ⊎ ((p.0 ≡ q.0) × (p.1 < q.1))

-- each pair is before every later one
abbrev pub InOrder : List (ℕ × ℕ) → Type 0
InOrder ps = (i j : ℕ) → i < j → j < length ps → Before (get_or ps i (0, 0)) (get_or ps j (0, 0))

-- no pair stands at two places
abbrev pub Once : List (ℕ × ℕ) → Type 0
Once ps = (i j : ℕ) → i < j → j < length ps → get_or ps i (0, 0) ≡ get_or ps j (0, 0) → ⊥

-- is among
abbrev pub In : {A : Type 0} → A → List A → Type 0
In a l = Memᴰ a l

-- some live record of the first book with the station s, and some live record of the second with t, whose chosen codes agree under m
pub record Agree (c : Choice) (x y : Book) (s t : ℕ) : Type 0 where
  pub first : Entry
  pub second : Entry
  pub in_first : In first x.records
  pub in_second : In second y.records
  pub live_first : first.kind ≡ 1
  pub live_second : second.kind ≡ 1
  pub left : s ≡ first.body.station
  pub right : t ≡ second.body.station
  pub codes : clip (limits_of x y) (chosen_code c first.body) ≡ clip (limits_of x y) (chosen_code c second.body)
