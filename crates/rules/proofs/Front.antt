-- At place 0 a second byte is added only where a byte that stands in the word is passed over: a test that antt computes over the
-- table, and the law that carries it to each visit at place 0. The test goes down a list of cases: a case is passed by where it
-- never holds at place 0, or where an earlier one holds with it; it ends at a case that always holds there.
use Prim.Native.Char.{code}
use Prim.Native.Nat.{ℕ, zero, suc, ◌+◌, ◌-◌, ◌≤◌, min, max}
use mathlib.Core.Bool.{Bool, true, false, false≢true, cond, not, ◌&&◌, ◌||◌, and-false, or-true}
use mathlib.Core.List.{List, [], ◌∷◌, map}
use mathlib.Core.Path.{◌≡◌, refl, sym, ap, ◌∙◌}
use native.Mathlib.Nat.{add-zero, zero-add}
use native.Mathlib.Omega.{arith}
use borrow.Author.Tests.{leb-true, ltb-true, eqb-true, eq-eqb, ne_eqb, lt-ltb, le-ltb, lt-leb}
use lib.Dec.{leb, ltb, eqb}
use lib.ListN.{length, get_or, drop}
use lib.Seq.{get_or-take, get_or-drop}
use Rattle.basics.proofs.Every.{every}
use Rattle.byte.specs.Text.{bytes}
use Rattle.basics.specs.Same.{same}
use Rattle.windows.specs.Window.{is_at, sees}
use Rattle.spots.specs.Spot.{byte_at, vowel_at}
use Rattle.basics.proofs.Tests.{both, either}
use Rattle.basics.proofs.Same.{same_true}
use Rattle.windows.proofs.Facts.{is_at_true}
use Rattle.rules.specs.Cond.{Spot, ahead, back, front, rear, Cond, Mode, always, window, byte, vowel, place, past, below, left, long, slavo, edition2, non, ◌&◌, ◌or◌, at, holds}
use Rattle.rules.specs.Case.{Case, added, gives, first}
use Rattle.rules.specs.Plain.{swallows, cases_vowel, cases_rest}
use Rattle.rules.specs.CasesC.{cases_c}
use Rattle.rules.specs.CasesDL.{cases_d, cases_h, cases_j, cases_l}
use Rattle.rules.specs.CasesG.{cases_g}
use Rattle.rules.specs.CasesMZ.{cases_m, cases_p, cases_r, cases_t, cases_w, cases_x, cases_z}
use Rattle.rules.specs.CasesS.{cases_s}
use Rattle.rules.specs.Table.{rows, cases_in, visit}
use Rattle.rules.specs.Kept.{bytes_of, AtFront}
use Rattle.rules.proofs.Each.{row_passes}

-- ---- what a condition surely answers at place 0
abbrev before : Spot → Bool
before (ahead k) = false
before (back k) = ltb 0 k
before (front k) = false
before (rear k) = false

abbrev surely : Bool → Cond → Bool
surely true always = true
surely false always = false
surely true (window s n ts) = false
surely false (window s n ts) = before s
surely true (byte s b) = false
surely false (byte s b) = before s
surely true (vowel s) = false
surely false (vowel s) = before s
surely true (place k) = eqb k 0
surely false (place k) = ltb 0 k
surely true (past k) = false
surely false (past k) = true
surely true (below k) = ltb 0 k
surely false (below k) = false
surely b (left k) = false
surely b (long n) = false
surely b slavo = false
surely b edition2 = false
surely b (non c) = surely (not b) c
surely true (c & d) = surely true c && surely true d
surely false (c & d) = surely false c || surely false d
surely true (c or d) = surely true c || surely true d
surely false (c or d) = surely false c && surely false d

before_none : (s : Spot) → before s ≡ true → (u : List ℕ) (f : ℕ → Bool) → at s u 0 f ≡ false
before_none (ahead k) e u f = absurd (false≢true e)
before_none (back k) e u f = simp (lt-leb k 0 (ltb-true 0 k e))
before_none (front k) e u f = absurd (false≢true e)
before_none (rear k) e u f = absurd (false≢true e)

not_not : (b c : Bool) → c ≡ not b → not c ≡ b
not_not true c e = ap not e
not_not false c e = ap not e

module _ (u : List ℕ) (m : Mode) where
  settled_holds : (b : Bool) (c : Cond) → surely b c ≡ true → holds c u 0 m ≡ b
  unfolding holds
  settled_holds true always e = refl
  settled_holds false always e = absurd (false≢true e)
  settled_holds true (window s n ts) e = absurd (false≢true e)
  settled_holds false (window s n ts) e = before_none s e u _
  settled_holds true (byte s b) e = absurd (false≢true e)
  settled_holds false (byte s b) e = before_none s e u _
  settled_holds true (vowel s) e = absurd (false≢true e)
  settled_holds false (vowel s) e = before_none s e u _
  settled_holds true (place k) e = eq-eqb 0 k (sym (eqb-true k 0 e))
  settled_holds false (place k) e = ne_eqb 0 k (λ q. omega (arith, ltb-true 0 k e))
  settled_holds true (past k) e = absurd (false≢true e)
  settled_holds false (past k) e = le-ltb k 0 (omega arith)
  settled_holds true (below k) e = e
  settled_holds false (below k) e = absurd (false≢true e)
  settled_holds b (left k) e = absurd (false≢true e)
  settled_holds b (long n) e = absurd (false≢true e)
  settled_holds b slavo e = absurd (false≢true e)
  settled_holds b edition2 e = absurd (false≢true e)
  settled_holds b (non c) e = not_not b (holds c u 0 m) (settled_holds (not b) c e)
  settled_holds true (c & d) e =
      let h = both (surely true c) (surely true d) e in simp (settled_holds true c h.0, settled_holds true d h.1)
  settled_holds false (c & d) e =
      either (surely false c) (surely false d) e _ (λ f. simp (settled_holds false c f)) (λ f. simp (settled_holds false d f, and-false))
  settled_holds true (c or d) e =
      either (surely true c) (surely true d) e _ (λ f. simp (settled_holds true c f)) (λ f. simp (settled_holds true d f, or-true))
  settled_holds false (c or d) e =
      let h = both (surely false c) (surely false d) e in simp (settled_holds false c h.0, settled_holds false d h.1)

-- ---- how long a word must be for a condition to hold at place 0
abbrev reach : Spot → ℕ → ℕ
reach (ahead k) n = k + n
reach (back k) n = 0
reach (front k) n = k + n
reach (rear k) n = 0

abbrev least : Cond → ℕ
least always = 0
least (window s n ts) = reach s n
least (byte s b) = reach s 1
least (vowel s) = reach s 1
least (place k) = 0
least (past k) = 0
least (below k) = 0
least (left k) = 0
least (long n) = 0
least slavo = 0
least edition2 = 0
least (non c) = 0
least (c & d) = max (least c) (least d)
least (c or d) = min (least c) (least d)

module _ (u : List ℕ) where
  -- a question that is answered yes only where `n` bytes stand
  reached : (s : Spot) (n : ℕ) (f : ℕ → Bool) → ((q : ℕ) → f q ≡ true → q + n ≤ length u) → at s u 0 f ≡ true → reach s n ≤ length u
  reached (ahead k) n f h e = h k (rw zero-add at e)
  reached (back k) n f h e = omega arith
  reached (front k) n f h e = h k e
  reached (rear k) n f h e = omega arith

  sees_inside : (n : ℕ) (ts : List (List ℕ)) (q : ℕ) → sees u q n ts ≡ true → q + n ≤ length u
  unfolding sees
  sees_inside n [] q e = absurd (false≢true e)
  sees_inside n (t ∷ ts) q e = either (is_at u q n t) (sees u q n ts) e _ (λ f. (is_at_true u q n t f).0) (λ f. sees_inside n ts q f)

  byte_inside : (b q : ℕ) → byte_at u q b ≡ true → q + 1 ≤ length u
  unfolding byte_at
  byte_inside b q e = omega (arith, ltb-true q (length u) (both (ltb q (length u)) _ e).0)

  vowel_inside : (q : ℕ) → vowel_at u q ≡ true → q + 1 ≤ length u
  unfolding vowel_at
  vowel_inside q e = omega (arith, ltb-true q (length u) (both (ltb q (length u)) _ e).0)

module _ (u : List ℕ) (m : Mode) where
  least_long : (c : Cond) → holds c u 0 m ≡ true → least c ≤ length u
  unfolding holds
  least_long always e = omega arith
  least_long (window s n ts) e = reached u s n _ (λ q f. sees_inside u n (map bytes ts) q f) e
  least_long (byte s b) e = reached u s 1 _ (λ q f. byte_inside u (code b) q f) e
  least_long (vowel s) e = reached u s 1 _ (λ q f. vowel_inside u q f) e
  least_long (place k) e = omega arith
  least_long (past k) e = omega arith
  least_long (below k) e = omega arith
  least_long (left k) e = omega arith
  least_long (long n) e = omega arith
  least_long slavo e = omega arith
  least_long edition2 e = omega arith
  least_long (non c) e = omega arith
  least_long (c & d) e =
      let h = both (holds c u 0 m) (holds d u 0 m) e in omega (arith, least_long c h.0, least_long d h.1)
  least_long (c or d) e =
      either (holds c u 0 m) (holds d u 0 m) e _ (λ f. omega (arith, least_long c f)) (λ f. omega (arith, least_long d f))

-- ---- a condition that holds at place 0 only where another does
-- where the condition holds, a window at `k` is a text that passes, its width with it
abbrev shows : Cond → ℕ → (ℕ → List ℕ → Bool) → Bool
shows always k f = false
shows (window (ahead j) n ts) k f = eqb j k && every (f n) (map bytes ts)
shows (window (back j) n ts) k f = false
shows (window (front j) n ts) k f = false
shows (window (rear j) n ts) k f = false
shows (byte s b) k f = false
shows (vowel s) k f = false
shows (place j) k f = false
shows (past j) k f = false
shows (below j) k f = false
shows (left j) k f = false
shows (long n) k f = false
shows slavo k f = false
shows edition2 k f = false
shows (non c) k f = false
shows (c & d) k f = shows c k f || shows d k f
shows (c or d) k f = (surely false c || shows c k f) && (surely false d || shows d k f)

abbrev one_of : List (List ℕ) → List ℕ → Bool
one_of [] t = false
one_of (s ∷ ss) t = same t s || one_of ss t

abbrev begins : ℕ → List ℕ → Bool
begins b [] = false
begins b (x ∷ s) = eqb x b

abbrev forces : Cond → Cond → Bool
forces c always = true
forces c (window (ahead k) n ts) = shows c k (λ (l : ℕ) (t : List ℕ). eqb l n && one_of (map bytes ts) t)
forces c (window (back k) n ts) = false
forces c (window (front k) n ts) = false
forces c (window (rear k) n ts) = false
forces c (byte (ahead k) b) = shows c k (λ (l : ℕ) (t : List ℕ). begins (code b) t)
forces c (byte (back k) b) = false
forces c (byte (front k) b) = false
forces c (byte (rear k) b) = false
forces c (vowel s) = false
forces c (place k) = false
forces c (past k) = false
forces c (below k) = false
forces c (left k) = false
forces c (long n) = false
forces c slavo = false
forces c edition2 = false
forces c (non d) = false
forces c (d & e) = forces c d && forces c e
forces c (d or e) = forces c d || forces c e

-- a window at `k` that is a text which passes
pub record Shown (u : List ℕ) (k : ℕ) (f : ℕ → List ℕ → Bool) : Type 0 where
  pub width : ℕ
  pub text : List ℕ
  pub there : is_at u k width text ≡ true
  pub passes : f width text ≡ true

module _ (u : List ℕ) (k : ℕ) (f : ℕ → List ℕ → Bool) where
  shown_text : (n : ℕ) (ts : List (List ℕ)) → every (f n) ts ≡ true → sees u k n ts ≡ true → Shown u k f
  unfolding sees
  shown_text n [] a e = absurd (false≢true e)
  shown_text n (t ∷ ts) a e =
      let h = both (f n t) (every (f n) ts) a in
      either (is_at u k n t) (sees u k n ts) e _
      (λ i. record { width = n; text = t; there = i; passes = h.0 })
      (λ i. shown_text n ts h.1 i)

  module _ (m : Mode) where
    shown_or : (c : Cond) → (shows c k f ≡ true → holds c u 0 m ≡ true → Shown u k f)
        → (surely false c || shows c k f) ≡ true → holds c u 0 m ≡ true → Shown u k f
    shown_or c ih a e =
        either (surely false c) (shows c k f) a _ (λ n. absurd (false≢true (sym (settled_holds u m false c n) ∙ e))) (λ s. ih s e)

    shown : (c : Cond) → shows c k f ≡ true → holds c u 0 m ≡ true → Shown u k f
    unfolding holds
    shown always a e = absurd (false≢true a)
    shown (window (ahead j) n ts) a e =
        let h = both (eqb j k) (every (f n) (map bytes ts)) a in
        shown_text n (map bytes ts) h.1 (rw (zero-add, eqb-true j k h.0) at e)
    shown (window (back j) n ts) a e = absurd (false≢true a)
    shown (window (front j) n ts) a e = absurd (false≢true a)
    shown (window (rear j) n ts) a e = absurd (false≢true a)
    shown (byte s b) a e = absurd (false≢true a)
    shown (vowel s) a e = absurd (false≢true a)
    shown (place j) a e = absurd (false≢true a)
    shown (past j) a e = absurd (false≢true a)
    shown (below j) a e = absurd (false≢true a)
    shown (left j) a e = absurd (false≢true a)
    shown (long n) a e = absurd (false≢true a)
    shown slavo a e = absurd (false≢true a)
    shown edition2 a e = absurd (false≢true a)
    shown (non c) a e = absurd (false≢true a)
    shown (c & d) a e =
        let h = both (holds c u 0 m) (holds d u 0 m) e in
        either (shows c k f) (shows d k f) a _ (λ s. shown c s h.0) (λ s. shown d s h.1)
    shown (c or d) a e =
        let h = both (surely false c || shows c k f) (surely false d || shows d k f) a in
        either (holds c u 0 m) (holds d u 0 m) e _
        (λ i. shown_or c (shown c) h.0 i)
        (λ i. shown_or d (shown d) h.1 i)

one_of_sees : (u : List ℕ) (k n : ℕ) (t : List ℕ) → is_at u k n t ≡ true → (ts : List (List ℕ)) → one_of ts t ≡ true → sees u k n ts ≡ true
unfolding sees
one_of_sees u k n t i [] e = absurd (false≢true e)
one_of_sees u k n t i (s ∷ ts) e =
    either (same t s) (one_of ts t) e _
    (λ h. simp (ap (is_at u k n) (sym (same_true t s h)) ∙ i))
    (λ h. simp (one_of_sees u k n t i ts h, or-true))

shown_sees : (u : List ℕ) (k n : ℕ) (ts : List (List ℕ)) → Shown u k (λ (l : ℕ) (t : List ℕ). eqb l n && one_of ts t) → sees u k n ts ≡ true
shown_sees u k n ts s =
    let h = both (eqb s.width n) (one_of ts s.text) s.passes in
    one_of_sees u k n s.text (rw (eqb-true s.width n h.0) at s.there) ts h.1

begins_byte : (u : List ℕ) (k b n : ℕ) (t : List ℕ) → is_at u k n t ≡ true → begins b t ≡ true → byte_at u k b ≡ true
unfolding byte_at
begins_byte u k b n [] i e = absurd (false≢true e)
begins_byte u k b zero (x ∷ t) i e = absurd (let z : ◌≡◌ {A = ℕ} 0 1 = cc (is_at_true u k 0 (x ∷ t) i).1 in omega arith)
begins_byte u k b (suc n) (x ∷ t) i e =
    let h = is_at_true u k (suc n) (x ∷ t) i in
    let g : get_or u (k + 0) 0 ≡ x = sym (get_or-drop k u 0 0) ∙ sym (get_or-take (suc n) (drop k u) 0 0 (omega arith)) ∙ ap (λ (l : List ℕ). get_or l 0 0) h.1 in
    let y : get_or u k 0 ≡ b = rw add-zero at (g ∙ eqb-true x b e) in
    simp (lt-ltb k (length u) (omega (arith, h.0)), eq-eqb (get_or u k 0) b y)

module _ (u : List ℕ) (m : Mode) (c : Cond) (e : holds c u 0 m ≡ true) where
  forced : (d : Cond) → forces c d ≡ true → holds d u 0 m ≡ true
  unfolding holds
  forced always a = refl
  forced (window (ahead k) n ts) a = rw zero-add (shown_sees u k n (map bytes ts) (shown u k _ m c a e))
  forced (window (back k) n ts) a = absurd (false≢true a)
  forced (window (front k) n ts) a = absurd (false≢true a)
  forced (window (rear k) n ts) a = absurd (false≢true a)
  forced (byte (ahead k) b) a =
      let s = shown u k (λ (l : ℕ) (t : List ℕ). begins (code b) t) m c a e in
      rw zero-add (begins_byte u k (code b) s.width s.text s.there s.passes)
  forced (byte (back k) b) a = absurd (false≢true a)
  forced (byte (front k) b) a = absurd (false≢true a)
  forced (byte (rear k) b) a = absurd (false≢true a)
  forced (vowel s) a = absurd (false≢true a)
  forced (place k) a = absurd (false≢true a)
  forced (past k) a = absurd (false≢true a)
  forced (below k) a = absurd (false≢true a)
  forced (left k) a = absurd (false≢true a)
  forced (long n) a = absurd (false≢true a)
  forced slavo a = absurd (false≢true a)
  forced edition2 a = absurd (false≢true a)
  forced (non d) a = absurd (false≢true a)
  forced (d & g) a =
      let h = both (forces c d) (forces c g) a in simp (forced d h.0, forced g h.1)
  forced (d or g) a =
      either (forces c d) (forces c g) a _ (λ f. simp (forced d f)) (λ f. simp (forced g f, or-true))

-- ---- the test of a list of cases, with the conditions of the cases before it
abbrev any_forced : Cond → List Cond → Bool
any_forced c [] = false
any_forced c (d ∷ ds) = forces c d || any_forced c ds

abbrev fits : Case → Bool
fits c =
    leb (length (bytes_of (added (bytes c.primary)))) (1 + min c.over (least c.when - 1))
    && leb (length (bytes_of (added (bytes c.alternate)))) (1 + min c.over (least c.when - 1))

abbrev opens : List Cond → List Case → Bool
opens ds [] = true
opens ds (c ∷ cs) =
    (surely false c.when || (any_forced c.when ds || fits c))
    && (surely true c.when || opens (c.when ∷ ds) cs)

-- none of the conditions holds at place 0
abbrev Fail : List ℕ → Mode → List Cond → Type 0
Fail u m [] = Unit {0}
Fail u m (d ∷ ds) = (holds d u 0 m ≡ false) × Fail u m ds

chosen : {A : Type 0} (P : A → Type 0) (q : Bool) {x y : A} → (q ≡ true → P x) → (q ≡ false → P y) → P (cond q x y)
chosen P true f g = f refl
chosen P false f g = g refl

longer : (n k l t : ℕ) → n ≤ 1 + min k (l - 1) → l ≤ t → n ≤ 1 + min k (t - 1)
longer n k l t h j = omega arith

module _ (u : List ℕ) (m : Mode) where
  none_forced : (c : Cond) (ds : List Cond) → Fail u m ds → any_forced c ds ≡ true → holds c u 0 m ≡ true → ⊥
  none_forced c [] n a e = false≢true a
  none_forced c (d ∷ ds) n a e =
      either (forces c d) (any_forced c ds) a _
      (λ f. false≢true (sym n.0 ∙ forced u m c e d f))
      (λ f. none_forced c ds n.1 f e)

  fits_front : (c : Case) → fits c ≡ true → holds c.when u 0 m ≡ true → AtFront (length u) (gives c)
  fits_front c a e =
      let h = both (leb (length (bytes_of (added (bytes c.primary)))) (1 + min c.over (least c.when - 1))) _ a in
      let l = least_long u m c.when e in
      record { primary = longer _ c.over _ _ (leb-true _ _ h.0) l; alternate = longer _ c.over _ _ (leb-true _ _ h.1) l }

  first_front : (ds : List Cond) (cs : List Case) → Fail u m ds → opens ds cs ≡ true → AtFront (length u) (first cs u 0 m)
  unfolding first
  first_front ds [] n a = record { primary = omega arith; alternate = omega arith }
  first_front ds (c ∷ cs) n a =
      let h = both (surely false c.when || (any_forced c.when ds || fits c)) _ a in
      chosen (AtFront (length u)) (holds c.when u 0 m)
      (λ e.
      either (surely false c.when) _ h.0 _
      (λ f. absurd (false≢true (sym (settled_holds u m false c.when f) ∙ e)))
      (λ g.
      either (any_forced c.when ds) (fits c) g _
      (λ f. absurd (none_forced c.when ds n f e))
      (λ f. fits_front c f e)))
      (λ e.
      either (surely true c.when) _ h.1 _
      (λ f. absurd (false≢true (sym e ∙ settled_holds u m true c.when f)))
      (λ g. first_front (c.when ∷ ds) cs (e, n) g))

-- the table passes the test
table_opens : (b : ℕ) → opens [] (cases_in rows b) ≡ true
unfolding rows swallows cases_c cases_d cases_g cases_h cases_j cases_l cases_m cases_p cases_r cases_s cases_t cases_w cases_x cases_z cases_vowel cases_rest same
table_opens b = row_passes (opens []) rows b refl

pub visit_front : (u : List ℕ) (m : Mode) → AtFront (length u) (visit u 0 m)
unfolding visit
visit_front u m = first_front u m [] (cases_in rows (get_or u 0 0)) tt (table_opens (get_or u 0 0))
