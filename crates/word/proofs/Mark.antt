-- The mark, one place at a time.
use Prim.Native.Nat.{ℕ, suc, ◌+◌, ◌≤◌, ◌<◌}
use mathlib.Core.Path.{◌≡◌, refl, sym, ap, ap₂, ◌∙◌}
use mathlib.Core.List.{List, [], ◌∷◌}
use mathlib.Core.Bool.{Bool, true, false, false≢true, ◌&&◌, ◌||◌, and-true, or-false}
use native.Mathlib.Numerals.{add-one}
use native.Mathlib.Omega.{arith}
use borrow.Author.Tests.{le-leb}
use lib.Bits.{bit_or}
use lib.Dec.{eqb}
use lib.ListN.{length, get_or, drop, drop_of_length-le}
use lib.Seq.{drop-cons}
use Rattle.byte.specs.Text.{bytes, up, upper}
use Rattle.basics.specs.Same.{same}
use Rattle.windows.specs.Window.{is_at}
use Rattle.windows.proofs.Facts.{is_at_begins}
use Rattle.basics.proofs.Computed.{answers, alike_where}
use Rattle.byte.proofs.Case.{length_upper, get_d_upper}
use Rattle.word.specs.Mark.{begins_one, has_one, mark_texts, mark_texts_brief, slavo_germanic}

-- ---- small letters
-- a byte with bit 32 set is a small letter just where its capital is the capital
small : (c : ℕ) → answers (λ x. eqb (bit_or x 32) (c + 32)) 256 ≡ answers (λ x. eqb (up x) c) 256 → (x : ℕ) → x < 256 → eqb (bit_or x 32) (c + 32) ≡ eqb (up x) c
small c e x h = alike_where (λ y. true) (λ y. eqb (bit_or y 32) (c + 32)) (λ y. eqb (up y) c) 256 x h refl e

-- ---- a text of one byte, and of two, at the front
one_there : (b x : ℕ) (r : List ℕ) → is_at (b ∷ r) 0 1 (x ∷ []) ≡ eqb b x
unfolding is_at same
one_there b x r = simp (le-leb 1 (suc (length r)) (omega arith), and-true)

two_there : (b x y : ℕ) (r : List ℕ) → eqb 0 y ≡ false → is_at (b ∷ r) 0 2 (x ∷ y ∷ []) ≡ (eqb b x && eqb (get_or r 0 0) y)
unfolding is_at same
two_there b x y [] e = rw e (none (eqb b x))
  where
    none : (q : Bool) → false ≡ (q && false)
    none true = refl
    none false = refl
two_there b x y (d ∷ r) e = simp (le-leb 2 (suc (suc (length r))) (omega arith), and-true)

-- ---- WITZ beside W
pub witz_is_w : (u : List ℕ) → is_at u 0 4 (bytes "WITZ") ≡ true → is_at u 0 1 (bytes "W") ≡ true
witz_is_w u e = is_at_begins u 0 4 1 (bytes "WITZ") (omega arith) e

begins_brief : (u : List ℕ) → begins_one mark_texts u ≡ begins_one mark_texts_brief u
unfolding begins_one
begins_brief u = or_last (is_at u 0 1 (bytes "W")) (is_at u 0 1 (bytes "K")) (is_at u 0 2 (bytes "CZ")) (is_at u 0 4 (bytes "WITZ")) (witz_is_w u)
  where
    or_last : (w k c t : Bool) → (t ≡ true → w ≡ true) → (w || (k || (c || (t || false)))) ≡ (w || (k || (c || false)))
    or_last true k c t h = refl
    or_last false k c true h = absurd (false≢true (h refl))
    or_last false k c false h = refl

-- no word has the mark by WITZ alone
pub witz_idle : (u : List ℕ) → has_one mark_texts u ≡ has_one mark_texts_brief u
unfolding has_one
witz_idle [] = refl
witz_idle (b ∷ u) = ap₂ ◌||◌ (begins_brief (b ∷ u)) (witz_idle u)

-- ---- the three texts at the front
begins_marked : (b : ℕ) (r : List ℕ) → begins_one mark_texts_brief (b ∷ r) ≡ ((eqb b 87 || eqb b 75) || (eqb b 67 && eqb (get_or r 0 0) 90))
unfolding begins_one
begins_marked b r =
    rw (one_there b 87 r, one_there b 75 r, two_there b 67 90 r refl)
    (three_tests (eqb b 87) (eqb b 75) (eqb b 67 && eqb (get_or r 0 0) 90))
  where
    three_tests : (w k c : Bool) → (w || (k || (c || false))) ≡ ((w || k) || c)
    three_tests true k c = refl
    three_tests false true c = refl
    three_tests false false c = or-false c

-- ---- what a scan with the byte before it at hand finds
unfoldable pub scan : Bool → List ℕ → Bool
scan c [] = false
scan c (b ∷ u) = ((eqb b 87 || eqb b 75) || (eqb b 90 && c)) || scan (eqb b 67) u

-- a CZ may be seen at its Z or at its C
seen_at : (a z c h r : Bool) → ((a || (z && c)) || (h || r)) ≡ ((c && z) || ((a || h) || r))
seen_at true true true h r = refl
seen_at true true false h r = refl
seen_at true false true h r = refl
seen_at true false false h r = refl
seen_at false true true h r = refl
seen_at false true false h r = refl
seen_at false false true h r = refl
seen_at false false false h r = refl

scan_has : (c : Bool) (u : List ℕ) → scan c u ≡ ((c && eqb (get_or u 0 0) 90) || has_one mark_texts_brief u)
unfolding scan has_one
scan_has c [] = none c
  where
    none : (q : Bool) → false ≡ ((q && false) || false)
    none true = refl
    none false = refl
scan_has c (b ∷ u) =
    ap (λ (q : Bool). ((eqb b 87 || eqb b 75) || (eqb b 90 && c)) || q) (scan_has (eqb b 67) u)
    ∙ seen_at (eqb b 87 || eqb b 75) (eqb b 90) c (eqb b 67 && eqb (get_or u 0 0) 90) (has_one mark_texts_brief u)
    ∙ ap (λ (q : Bool). (c && eqb b 90) || (q || has_one mark_texts_brief u)) (sym (begins_marked b u))

-- what was found, and what the scan from place `i` on finds behind the small letter `last`
abbrev pub Found : List ℕ → ℕ → ℕ → Bool → Type 0
Found w i last found = (found || scan (eqb last 99) (drop i (upper w))) ≡ scan false (upper w)

found_more : (f h r : Bool) → ((f || h) || r) ≡ (f || (h || r))
found_more true h r = refl
found_more false h r = refl

pub scan_turn : (w : List ℕ) (i last : ℕ) (found : Bool) → i < length w → get_or w i 0 < 256 → Found w i last found
    → Found w (i + 1) (bit_or (get_or w i 0) 32)
    (found || ((eqb (bit_or (get_or w i 0) 32) 119 || eqb (bit_or (get_or w i 0) 32) 107) || (eqb (bit_or (get_or w i 0) 32) 122 && eqb last 99)))
unfolding scan up
scan_turn w i last found h byte inv =
    let b : ℕ = up (get_or w i 0) in
    let k : i < length (upper w) = rw length_upper h in
    let c : drop i (upper w) ≡ b ∷ drop (i + 1) (upper w) =
    rw add-one (drop-cons (upper w) i 0 k ∙ ap (λ (x : ℕ). x ∷ drop (suc i) (upper w)) (get_d_upper w i)) in
    found_more found _ _
    ∙ ap (λ (x : Bool). found || x)
    (ap₂ ◌||◌ (ap₂ ◌||◌ (ap₂ ◌||◌ (small 87 refl (get_or w i 0) byte) (small 75 refl (get_or w i 0) byte)) (ap (λ (x : Bool). x && eqb last 99) (small 90 refl (get_or w i 0) byte)))
    (ap (λ (x : Bool). scan x (drop (i + 1) (upper w))) (small 67 refl (get_or w i 0) byte)))
    ∙ ap (λ (u : List ℕ). found || scan (eqb last 99) u) (sym c) ∙ inv

pub scan_end : (w : List ℕ) (i last : ℕ) (found : Bool) → length w ≤ i → Found w i last found → found ≡ slavo_germanic (upper w)
unfolding scan slavo_germanic
scan_end w i last found h inv =
    let l : length (upper w) ≤ i = rw length_upper h in
    let e : drop i (upper w) ≡ [] = drop_of_length-le (upper w) l in
    sym (or-false found) ∙ ap (λ (u : List ℕ). found || scan (eqb last 99) u) (sym e) ∙ inv ∙ scan_has false (upper w) ∙ sym (witz_idle (upper w))
