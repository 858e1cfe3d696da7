-- The order of a join: of two books that read, the pairs rise strictly, by the first number and then by the second, so that each appears
-- join-once.
use Prim.Native.Nat.{ℕ, zero, suc, ◌≤◌, ◌<◌}
use mathlib.Core.Path.{◌≡◌, ap, subst, ◌∙◌}
use mathlib.Core.Logic.{◌⊎◌, inl, inr}
use mathlib.Core.Bool.{Bool, true, false, cond}
use mathlib.Core.List.{List, [], ◌∷◌}
use native.Mathlib.Numerals.{add-one}
use native.Mathlib.Omega.{arith}
use lib.ListN.{length, get_or}
use Rattle.number.specs.Septets.{Bytes}
use Rattle.chosen.specs.declared.Choice.{Choice}
use Rattle.fields.specs.Got.{good}
use Rattle.entry.specs.Entry.{Entry, above, is_live}
use Rattle.book.specs.Book.{Book, read_book, live}
use Rattle.book_laws.proofs.Good.{book_only}
use Rattle.matching.proofs.Order.{Rises, none, more, Rising, end, next, pairs_rise}
use Rattle.matching.specs.Pairs.{Coded}
use Rattle.two_books.specs.Sides.{bodies, standing, coded_all, join_of, limits_of}
use Rattle.join_laws.specs.Order.{Before, InOrder, Once}
use Rattle.book_laws.specs.Good as book

-- ---- from a list that rises to places in it
-- (a, b) is not above a pair
abbrev From : ℕ → ℕ → ℕ × ℕ → Type 0
From a b q = (a < q.0) ⊎ ((a ≡ q.0) × (b ≤ q.1))

behind : {a b : ℕ} (p q : ℕ × ℕ) → From a b p → From p.0 (suc p.1) q → From a b q
behind p q (inl g) (inl h) = inl (omega arith)
behind p q (inl g) (inr h) = let e = h.0 in inl (omega arith)
behind p q (inr g) (inl h) = let e = g.0 in inl (omega arith)
behind p q (inr g) (inr h) = let d = g.1 in let e = h.1 in inr (g.0 ∙ h.0, omega arith)

from_start : {a b : ℕ} {ps : List (ℕ × ℕ)} → Rising a b ps → (j : ℕ) → j < length ps → From a b (get_or ps j (0, 0))
from_start end j h = absurd (omega arith)
from_start (next g r) zero h = g
from_start (next {q = q} {qs = qs} g r) (suc j) h = behind q (get_or qs j (0, 0)) g (from_start r j (omega arith))

placed : {a b : ℕ} {ps : List (ℕ × ℕ)} → Rising a b ps → InOrder ps
placed end i j h k = absurd (omega arith)
placed (next g r) i zero h k = absurd (omega arith)
placed (next g r) zero (suc j) h k = from_start r j (omega arith)
placed (next g r) (suc i) (suc j) h k = placed r i j (omega arith) (omega arith)

differ : (p q : ℕ × ℕ) → Before p q → p ≡ q → ⊥
differ p q (inl g) e = let z : p.0 ≡ q.0 = ap (λ (r : ℕ × ℕ). r.0) e in omega arith
differ p q (inr g) e = let h = g.1 in let z : p.1 ≡ q.1 = ap (λ (r : ℕ × ℕ). r.1) e in omega arith

-- ---- what a join sees of records that rise
lower : {s t : ℕ} {xs : List Coded} → s ≤ t → Rises t xs → Rises s xs
lower h none = none
lower {s} h (more {y = y} g r) = let k : s ≤ y.station = omega arith in more k r

rises : (c : Choice) (format : ℕ) {floor : ℕ} (es : List Entry) → book.GoodRecords format floor es → Rises floor (coded_all c (standing es))
unfolding coded_all
rises c format [] book.none = none
rises c format {floor = floor} (e ∷ es) (book.more x xs) = go (is_live e) (rises c format {floor = above e} es xs)
  where
    go : (t : Bool) → Rises (above e) (coded_all c (standing es)) → Rises floor (coded_all c (bodies (cond t (e ∷ live es) (live es))))
    go true ih = more x.body.rises (subst (λ (k : ℕ). Rises k (coded_all c (standing es))) (add-one e.body.station) ih)
    go false ih = lower (omega (arith, x.body.rises)) ih

module _ (c : Choice) (l k : List ℕ) (bl : Bytes l) (bk : Bytes k) (x y : Book) (n j : ℕ) (e : read_book l ≡ good x n) (f : read_book k ≡ good y j) where
  pub join_rises : Rising 0 0 (join_of c x y)
  join_rises = pairs_rise (limits_of x y) (rises c x.header.format x.records (book_only l bl x n e).records) (rises c y.header.format y.records (book_only k bk y j f).records)

  -- "ordered by the first book's station, then the second's"
  pub join_in_order : InOrder (join_of c x y)
  join_in_order = placed join_rises

  -- "each pair join-once"
  pub join_once : Once (join_of c x y)
  join_once u v h b d = differ (get_or (join_of c x y) u (0, 0)) (get_or (join_of c x y) v (0, 0)) (join_in_order u v h b) d
