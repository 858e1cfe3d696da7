-- How far a rule can see (document 02, L8): a condition whose windows lie near the place, or at the word's ends, cannot tell two
-- words apart that agree there. That every case's condition is such a one is a test that antt computes.
use Prim.Native.Char.{code}
use Prim.Native.Nat.{ℕ, ◌+◌, ◌-◌, ◌≤◌, ◌<◌}
use mathlib.Core.Bool.{Bool, true, false, false≢true, cond, not, ◌&&◌, ◌||◌, and-false}
use mathlib.Core.List.{List, [], ◌∷◌, map}
use mathlib.Core.Path.{◌≡◌, refl, sym, ap, ap₂, ◌∙◌}
use native.Mathlib.Omega.{arith}
use borrow.Author.Tests.{leb-true, eqb-true, ne_eqb}
use lib.Dec.{leb, ltb, eqb}
use lib.ListN.{length, get_or, take, drop, length-take, length-drop}
use lib.Seq.{ext_get_or, get_or-take, get_or-drop}
use Rattle.byte.specs.Text.{bytes}
use Rattle.basics.specs.Same.{same}
use Rattle.windows.specs.Window.{is_at, sees}
use Rattle.spots.specs.Spot.{byte_at, vowel_at, ends_after, is_long}
use Rattle.byte.specs.Vowel.{vowel}
use Rattle.basics.proofs.Tests.{both, either}
use Rattle.rules.specs.Agree.{Agree}
use Rattle.rules.specs.Cond.{Spot, ahead, back, front, rear, Cond, Mode, always, window, byte, vowel as vowelThere, place, past, below, left, long, slavo, edition2, non, ◌&◌, ◌or◌, at, holds}
use Rattle.rules.specs.Case.{Case, gives, first}
use Rattle.rules.specs.Plain.{swallows, cases_vowel, cases_rest}
use Rattle.rules.specs.CasesC.{cases_c}
use Rattle.rules.specs.CasesDL.{cases_d, cases_h, cases_j, cases_l}
use Rattle.rules.specs.CasesG.{cases_g}
use Rattle.rules.specs.CasesMZ.{cases_m, cases_p, cases_r, cases_t, cases_w, cases_x, cases_z}
use Rattle.rules.specs.CasesS.{cases_s}
use Rattle.rules.specs.Table.{rows, cases_in, visit}
use Rattle.outcome.specs.declared.Visit.{Visit}
use Rattle.basics.proofs.Every.{every}
use Rattle.rules.proofs.Each.{row_passes}

-- ---- the test
-- `n` bytes at the spot lie where the two words agree
abbrev seen : Spot → ℕ → Bool
seen (ahead k) n = leb (k + n) 5
seen (back k) n = leb k 4 && leb n (k + 5)
seen (front k) n = leb (k + n) 6
seen (rear k) n = leb k 2

-- the condition asks for place 0
abbrev zero? : Cond → Bool
zero? always = false
zero? (window s n ts) = false
zero? (byte s b) = false
zero? (vowelThere s) = false
zero? (place k) = eqb k 0
zero? (past k) = false
zero? (below k) = false
zero? (left k) = false
zero? (long n) = false
zero? slavo = false
zero? edition2 = false
zero? (non always) = false
zero? (non (window s n ts)) = false
zero? (non (byte s b)) = false
zero? (non (vowelThere s)) = false
zero? (non (place k)) = false
zero? (non (past k)) = false
zero? (non (below k)) = false
zero? (non (left k)) = false
zero? (non (long n)) = false
zero? (non slavo) = false
zero? (non edition2) = false
zero? (non (non c)) = zero? c
zero? (non (c & d)) = false
zero? (non (c or d)) = false
zero? (c & d) = zero? c || zero? d
zero? (c or d) = false

-- at a place of at least 1, the condition sees no further than `Agree` says
abbrev near : Cond → Bool
near always = true
near (window s n ts) = seen s n
near (byte s b) = seen s 1
near (vowelThere s) = seen s 1
near (place k) = true
near (past k) = true
near (below k) = true
near (left k) = true
near (long n) = true
near slavo = true
near edition2 = true
near (non c) = near c
near (c & d) = zero? c || near c && near d
near (c or d) = near c && near d

abbrev near_case : Case → Bool
near_case c = near c.when

-- ---- the laws
and_same : (b x y : Bool) → (b ≡ true → x ≡ y) → (b && x) ≡ (b && y)
and_same true x y h = h refl
and_same false x y h = refl

-- two words that have the `n` bytes from `q` on in common
abbrev Common : List ℕ → List ℕ → ℕ → ℕ → Type 0
Common u v q n = (i : ℕ) → q ≤ i → i < q + n → get_or u i 0 ≡ get_or v i 0

module _ (u v : List ℕ) (l : length u ≡ length v) where
  is_at_same : (q n : ℕ) → Common u v q n → (t : List ℕ) → is_at u q n t ≡ is_at v q n t
  unfolding is_at
  is_at_same q n h t =
      let lu : length (take n (drop q u)) ≡ length (take n (drop q v)) = simp (length-take, length-drop, l) in
      ap₂ (λ (k : ℕ) (s : List ℕ). leb (q + n) k && same s t) l
      (ext_get_or 0 (take n (drop q u)) (take n (drop q v)) lu
      (λ i b.
      let c : i < n = omega (arith, length-take n (drop q u)) in
      get_or-take n (drop q u) i 0 c ∙ get_or-drop q u i 0 ∙ h (q + i) (omega arith) (omega arith)
      ∙ sym (get_or-drop q v i 0) ∙ sym (get_or-take n (drop q v) i 0 c)))

  sees_same : (n : ℕ) (ts : List (List ℕ)) (q : ℕ) → Common u v q n → sees u q n ts ≡ sees v q n ts
  unfolding sees
  sees_same n [] q h = refl
  sees_same n (t ∷ ts) q h = ap₂ ◌||◌ (is_at_same q n h t) (sees_same n ts q h)

  byte_same : (b q : ℕ) → Common u v q 1 → byte_at u q b ≡ byte_at v q b
  unfolding byte_at
  byte_same b q h = ap₂ (λ (k a : ℕ). ltb q k && eqb a b) l (h q (omega arith) (omega arith))

  vowel_same : (q : ℕ) → Common u v q 1 → vowel_at u q ≡ vowel_at v q
  unfolding vowel_at
  vowel_same q h = ap₂ (λ (k a : ℕ). ltb q k && vowel a) l (h q (omega arith) (omega arith))

  left_same : (p k : ℕ) → ends_after u p k ≡ ends_after v p k
  unfolding ends_after
  left_same p k = ap (eqb (p + k + 1)) l

  long_same : (n : ℕ) → is_long u n ≡ is_long v n
  unfolding is_long
  long_same n = ap (λ (k : ℕ). eqb k n) l

module _ (u v : List ℕ) (p : ℕ) (a : Agree u v p) where
  -- a question of `n` bytes, asked at a spot that passes the test, has one answer
  at_same : (s : Spot) (n : ℕ) (f g : ℕ → Bool) → ((q : ℕ) → Common u v q n → f q ≡ g q) → seen s n ≡ true → at s u p f ≡ at s v p g
  at_same (ahead k) n f g h e =
      let b = leb-true (k + n) 5 e in h (p + k) (λ i x y. a.about i (omega arith) (omega arith))
  at_same (back k) n f g h e =
      let b = both (leb k 4) (leb n (k + 5)) e in
      let c = leb-true k 4 b.0 in
      let d = leb-true n (k + 5) b.1 in
      and_same (leb k p) _ _ (λ t. let r = leb-true k p t in h (p - k) (λ i x y. a.about i (omega arith) (omega arith)))
  at_same (front k) n f g h e =
      let b = leb-true (k + n) 6 e in h k (λ i x y. a.start i (omega arith))
  at_same (rear k) n f g h e =
      let b = leb-true k 2 e in
      rw (← a.long) (and_same (leb k (length u)) _ _ (λ t. h (length u - k) (λ i x y. a.end i (omega arith))))

module _ (u v : List ℕ) (p : ℕ) (a : Agree u v p) (h : 0 < p) (m : Mode) where
  zero_no : (c : Cond) → zero? c ≡ true → (x : List ℕ) → holds c x p m ≡ false
  unfolding holds
  zero_no always e x = absurd (false≢true e)
  zero_no (window s n ts) e x = absurd (false≢true e)
  zero_no (byte s b) e x = absurd (false≢true e)
  zero_no (vowelThere s) e x = absurd (false≢true e)
  zero_no (place k) e x = ne_eqb p k (λ q. omega (arith, eqb-true k 0 e))
  zero_no (past k) e x = absurd (false≢true e)
  zero_no (below k) e x = absurd (false≢true e)
  zero_no (left k) e x = absurd (false≢true e)
  zero_no (long n) e x = absurd (false≢true e)
  zero_no slavo e x = absurd (false≢true e)
  zero_no edition2 e x = absurd (false≢true e)
  zero_no (non always) e x = absurd (false≢true e)
  zero_no (non (window s n ts)) e x = absurd (false≢true e)
  zero_no (non (byte s b)) e x = absurd (false≢true e)
  zero_no (non (vowelThere s)) e x = absurd (false≢true e)
  zero_no (non (place k)) e x = absurd (false≢true e)
  zero_no (non (past k)) e x = absurd (false≢true e)
  zero_no (non (below k)) e x = absurd (false≢true e)
  zero_no (non (left k)) e x = absurd (false≢true e)
  zero_no (non (long n)) e x = absurd (false≢true e)
  zero_no (non slavo) e x = absurd (false≢true e)
  zero_no (non edition2) e x = absurd (false≢true e)
  zero_no (non (non c)) e x = simp (zero_no c e x)
  zero_no (non (c & d)) e x = absurd (false≢true e)
  zero_no (non (c or d)) e x = absurd (false≢true e)
  zero_no (c & d) e x =
      either (zero? c) (zero? d) e _ (λ f. simp (zero_no c f x)) (λ f. simp (zero_no d f x, and-false))
  zero_no (c or d) e x = absurd (false≢true e)

  -- a condition that passes the test says the same of both words
  holds_same : (c : Cond) → near c ≡ true → holds c u p m ≡ holds c v p m
  unfolding holds
  holds_same always e = refl
  holds_same (window s n ts) e = at_same u v p a s n _ _ (sees_same u v a.long n (map bytes ts)) e
  holds_same (byte s b) e = at_same u v p a s 1 _ _ (byte_same u v a.long (code b)) e
  holds_same (vowelThere s) e = at_same u v p a s 1 _ _ (vowel_same u v a.long) e
  holds_same (place k) e = refl
  holds_same (past k) e = refl
  holds_same (below k) e = refl
  holds_same (left k) e = left_same u v a.long p k
  holds_same (long n) e = long_same u v a.long n
  holds_same slavo e = refl
  holds_same edition2 e = refl
  holds_same (non c) e = ap not (holds_same c e)
  holds_same (c & d) e =
      either (zero? c) (near c && near d) e _
      (λ f. simp (zero_no c f u, zero_no c f v))
      (λ f. let b = both (near c) (near d) f in ap₂ ◌&&◌ (holds_same c b.0) (holds_same d b.1))
  holds_same (c or d) e =
      let b = both (near c) (near d) e in ap₂ ◌||◌ (holds_same c b.0) (holds_same d b.1)

  -- so does a list of cases, and so a visit
  first_same : (cs : List Case) → every near_case cs ≡ true → first cs u p m ≡ first cs v p m
  unfolding first
  first_same [] e = refl
  first_same (c ∷ cs) e =
      let b = both (near c.when) (every near_case cs) e in
      ap₂ (λ (t : Bool) (r : Visit). cond t (gives c) r) (holds_same c.when b.0) (first_same cs b.1)

-- the table passes the test
table_near : (b : ℕ) → every near_case (cases_in rows b) ≡ true
unfolding rows swallows cases_c cases_d cases_g cases_h cases_j cases_l cases_m cases_p cases_r cases_s cases_t cases_w cases_x cases_z cases_vowel cases_rest
table_near b = row_passes (every near_case) rows b refl

-- L8, for one visit
pub visit_same : (u v : List ℕ) (p : ℕ) → Agree u v p → 0 < p → (m : Mode) → visit u p m ≡ visit v p m
unfolding visit
visit_same u v p a h m =
    first_same u v p a h m (cases_in rows (get_or u p 0)) (table_near (get_or u p 0))
    ∙ ap (λ (b : ℕ). first (cases_in rows b) v p m) (a.about p (omega arith) (omega arith))
