-- What is asked of a place, as a fact about lists.
use Prim.Native.Nat.{ℕ, ◌+◌, ◌-◌, ◌≤◌, ◌<◌}
use mathlib.Core.Path.{◌≡◌, refl, sym}
use mathlib.Core.Bool.{Bool, true, false, ◌&&◌}
use mathlib.Core.List.{List}
use native.Mathlib.Omega.{arith}
use borrow.Author.Tests.{ne_eqb, ltb-true, ltb-false}
use lib.Dec.{eqb, ltb}
use lib.ListN.{length, get_or}
use Rattle.byte.specs.Text.{up, upper}
use Rattle.spots.specs.Spot.{byte_at, vowel_at, ends_after, is_long}
use Rattle.byte.specs.Vowel.{vowel}
use Rattle.basics.proofs.Tests.{same_test}
use Rattle.byte.proofs.Case.{length_upper, get_d_upper}

-- ---- a test of the byte at a place: it passes there, or nothing stands there
when_below : (p n : ℕ) (q r : Bool) → (p < n → r ≡ q) → (n ≤ p → r ≡ false) → r ≡ (ltb p n && q)
when_below p n q r there past = by (ltb p n) refl
  where
    by : (b : Bool) → ltb p n ≡ b → r ≡ (b && q)
    by true e = there (ltb-true p n e)
    by false e = past (ltb-false p n e)

pub vowel_told : (w : List ℕ) (p : ℕ) (r : Bool) → (p < length w → r ≡ vowel (up (get_or w p 0))) → (length w ≤ p → r ≡ false) → r ≡ vowel_at (upper w) p
unfolding vowel_at
vowel_told w p r there past = simp (length_upper, get_d_upper) (when_below p (length w) _ r there past)

pub byte_told : (w : List ℕ) (p b : ℕ) (r : Bool) → (p < length w → r ≡ eqb (up (get_or w p 0)) b) → (length w ≤ p → r ≡ false) → r ≡ byte_at (upper w) p b
unfolding byte_at
byte_told w p b r there past = simp (length_upper, get_d_upper) (when_below p (length w) _ r there past)

-- ---- the end of the word
ends_past : (n p k : ℕ) → n ≤ k → false ≡ eqb (p + k + 1) n
ends_past n p k h = sym (ne_eqb (p + k + 1) n (λ e. omega arith))

pub no_end : (w : List ℕ) (p k : ℕ) → length w ≤ k → false ≡ ends_after (upper w) p k
unfolding ends_after
no_end w p k h = rw length_upper (ends_past (length w) p k h)

pub at_end : (w : List ℕ) (p k : ℕ) → k < length w → eqb p (length w - k - 1) ≡ ends_after (upper w) p k
unfolding ends_after
at_end w p k h = rw length_upper (same_test p (length w - k - 1) (p + k + 1) (length w) _ refl (λ e. omega arith) (λ e. omega arith))

pub all_long : (w : List ℕ) (n : ℕ) → eqb (length w) n ≡ is_long (upper w) n
unfolding is_long
all_long w n = rw length_upper
