-- The search for a byte of 128 or more, one place at a time, and what it finds.
use Prim.Native.Nat.{ℕ, zero, suc, ◌+◌, ◌≤◌, ◌<◌}
use mathlib.Core.Path.{◌≡◌, refl, sym, ◌∙◌}
use mathlib.Core.List.{List, [], ◌∷◌}
use mathlib.Core.Bool.{Bool, true, false, not, cond, ◌||◌}
use native.Mathlib.Omega.{arith}
use borrow.Author.Tests.{leb-true, leb-false, lt-ltb, not-true, not-false, ltb-true, ltb-false}
use lib.Dec.{ltb, leb, leb-suc-suc}
use lib.ListN.{length, get_or}
use Rattle.std.specs.List.{position_or_len, position}
use Rattle.std.specs.Option.{unwrap_or}
use Rattle.std.proofs.Common.{Some, None}
use Rattle.ascii.specs.High.{any_high, is_ascii, first_high, First}

-- what a search for the first gives
position_first : (w : List ℕ) → position_or_len (λ b. leb 128 b) w ≡ first_high w
position_first [] = refl
position_first (b ∷ w) = go (leb 128 b) (position_first w)
  where
    go : (q : Bool) → position_or_len (λ b. leb 128 b) w ≡ first_high w
        → cond (not q) (1 + position_or_len (λ b. leb 128 b) w) 0 ≡ cond q 0 (suc (first_high w))
    go true h = refl
    go false h = omega arith

-- some byte is high exactly where the first one's place lies in the word
pub any_is_first : (w : List ℕ) → any_high w ≡ ltb (first_high w) (length w)
any_is_first [] = refl
any_is_first (b ∷ w) = go (leb 128 b) (any_is_first w)
  where
    go : (q : Bool) → any_high w ≡ ltb (first_high w) (length w) → (q || any_high w) ≡ ltb (cond q 0 (suc (first_high w))) (suc (length w))
    go true h = sym (lt-ltb 0 (suc (length w)) (omega arith))
    go false h = h ∙ sym (leb-suc-suc (suc (first_high w)) (length w))

pub ascii_none : (w : List ℕ) → is_ascii w ≡ false → ltb (first_high w) (length w) ≡ true
ascii_none w e = sym (any_is_first w) ∙ not-false (any_high w) e

pub ascii_all : (w : List ℕ) → is_ascii w ≡ true → ltb (first_high w) (length w) ≡ false
ascii_all w e = sym (any_is_first w) ∙ not-true (any_high w) e

-- the place is the first
pub first_high_lem : (w : List ℕ) → First w (first_high w)
first_high_lem [] = record { within = omega arith; here = λ l. absurd (omega arith); before = λ k l. absurd (omega arith) }
first_high_lem (b ∷ w) = go (leb 128 b) refl (first_high_lem w)
  where
    passed : (k : ℕ) → b < 128 → First w (first_high w) → k < suc (first_high w) → get_or (b ∷ w) k 0 < 128
    passed zero h f l = h
    passed (suc k) h f l = f.before k (omega arith)

    go : (q : Bool) → leb 128 b ≡ q → First w (first_high w) → First (b ∷ w) (cond q 0 (suc (first_high w)))
    go true e f =
        let h : 128 ≤ b = leb-true _ _ e in
        record { within = omega arith; here = λ l. h; before = λ k l. absurd (omega arith) }
    go false e f =
        let h : b < 128 = leb-false _ _ e in
        record { within = omega (arith, f.within); here = λ l. f.here (omega arith); before = λ k l. passed k h f l }

-- where every byte is below 128 there is none
pub no_high : (w : List ℕ) → ((k : ℕ) → k < length w → get_or w k 0 < 128) → length w ≤ first_high w
no_high w low = go (ltb (first_high w) (length w)) refl
  where
    go : (q : Bool) → ltb (first_high w) (length w) ≡ q → length w ≤ first_high w
    go true t =
        let h : first_high w < length w = ltb-true _ _ t in
        absurd (omega (arith, (first_high_lem w).here h, low (first_high w) h))
    go false t = ltb-false _ _ t

pub position_high : (w : List ℕ) → unwrap_or (position (λ b. leb 128 b) w) (length w) ≡ first_high w
position_high w = rw (position_first w) (go (ltb (first_high w) (length w)) refl)
  where
    go : (q : Bool) → ltb (first_high w) (length w) ≡ q → unwrap_or (cond q (Some (first_high w)) None) (length w) ≡ first_high w
    go true e = refl
    go false e = omega (arith, ltb-false _ _ e, (first_high_lem w).within)
