-- The bound of demand 3 is reached: for each t from 1 on by the alternate code of K, X, Z, X, Z, .. of t bytes.
use Prim.Native.Nat.{ℕ, zero, suc, ◌+◌, ◌-◌, ◌*◌, ◌≤◌, ◌<◌}
use mathlib.Core.Path.{◌≡◌, refl, sym, ap, ◌∙◌}
use mathlib.Core.Logic.{◌⊎◌, inl, inr}
use mathlib.Core.List.{List, [], ◌∷◌, map}
use mathlib.Core.Bool.{Bool, true, false, not, ◌&&◌, and-false, or-true}
use native.Mathlib.Omega.{arith}
use native.Mathlib.Nat.{sub-zero}
use borrow.Author.Tests.{lt-ltb, le-leb, ne_eqb, eqb-false, not-true, leb-true}
use lib.Dec.{eqb, leb, ltb}
use lib.ListN.{length, get_or, drop, length-append}
use lib.Seq.{get_or-take, get_or-drop}
use Rattle.byte.specs.Text.{bytes, up, upper}
use Rattle.basics.specs.Same.{same}
use Rattle.windows.specs.Window.{is_at, sees}
use Rattle.spots.specs.Spot.{byte_at, step_back}
use Rattle.basics.proofs.Tests.{both, no}
use Rattle.windows.proofs.Facts.{is_at_true}
use Rattle.rules.specs.Cond.{mode, holds}
use Rattle.terms.specs.Editions.{is_second}
use Rattle.rules.specs.Case.{adds, first}
use Rattle.rules.specs.Plain.{swallows}
use Rattle.rules.specs.CasesMZ.{cases_x, cases_z}
use Rattle.rules.specs.Table.{rows, cases_in, visit}
use Rattle.rules.specs.Kept.{bytes_of}
use Rattle.terms.specs.declared.Edition.{Edition}
use Rattle.outcome.specs.declared.Visit.{Visit}
use Rattle.walk.specs.Walk.{places, joined, to_alternate}
use Rattle.word.specs.Mark.{begins_one, has_one, slavo_germanic}
use Rattle.word.specs.Start.{silent_starts, start_of}
use Rattle.walk.specs.Word.{rule_of, visits_of, whole_of}
use Rattle.walk_laws.specs.Reach.{xz, kxz}

-- ---- a walk whose visits add two bytes each to the alternate code
-- a visit that passes nothing over and adds two bytes to it
pub record Twofold (v : Visit) : Type 0 where
  pub over : v.over ≡ 0
  pub added : length (bytes_of v.alternate) ≡ 2

all_twofold : (v : ℕ → Visit) (at left : ℕ) → ((k : ℕ) → at ≤ k → k < at + left → Twofold (v k)) → length (joined (to_alternate v) (places v at 0 left)) ≡ 2 * left
all_twofold v at zero f = omega arith
all_twofold v at (suc left) f =
    let here : Twofold (v at) = f at (omega arith) (omega arith) in
    let rec : length (joined (to_alternate v) (places v (suc at) 0 left)) ≡ 2 * left = all_twofold v (suc at) left (λ k l u. f k (omega arith) (omega arith)) in
    rw here.over
    (length-append (bytes_of (v at).alternate) (joined (to_alternate v) (places v (suc at) 0 left)) ∙ omega (arith, here.added))

from_k : (v : ℕ → Visit) (left : ℕ) → v 0 ≡ adds "K" "K" 0 → ((k : ℕ) → 1 ≤ k → k < 1 + left → Twofold (v k)) → length (joined (to_alternate v) (places v 0 0 (suc left))) ≡ 2 * suc left - 1
from_k v left e f = rw e (omega (arith, all_twofold v 1 left f))

-- ---- the bytes of the words
pub length_xz : (n : ℕ) → length (xz n) ≡ n
length_xz zero = refl
length_xz (suc zero) = refl
length_xz (suc (suc n)) = ap (λ (k : ℕ). suc (suc k)) (length_xz n)

upper_xz : (n : ℕ) → upper (xz n) ≡ xz n
unfolding upper up
upper_xz zero = refl
upper_xz (suc zero) = refl
upper_xz (suc (suc n)) = ap (λ (w : List ℕ). 88 ∷ 90 ∷ w) (upper_xz n)

upper_kxz : (n : ℕ) → upper (kxz n) ≡ kxz n
unfolding upper up
upper_kxz n = ap (λ (w : List ℕ). 75 ∷ w) (upper_xz n)

first_xz : (n : ℕ) → (get_or (xz n) 0 0 ≡ 88) ⊎ (get_or (xz n) 0 0 ≡ 0)
first_xz zero = inr refl
first_xz (suc zero) = inl refl
first_xz (suc (suc n)) = inl refl

-- what stands at place k + 1, behind it and before it
pub record XHere (n k : ℕ) : Type 0 where
  pub here : get_or (xz n) k 0 ≡ 88
  pub next : (get_or (xz n) (suc k) 0 ≡ 90) ⊎ (get_or (xz n) (suc k) 0 ≡ 0)
  pub last : eqb (get_or (kxz n) k 0) 85 ≡ false

pub record ZHere (n k : ℕ) : Type 0 where
  pub here : get_or (xz n) k 0 ≡ 90
  pub next : (get_or (xz n) (suc k) 0 ≡ 88) ⊎ (get_or (xz n) (suc k) 0 ≡ 0)
  pub last : get_or (kxz n) k 0 ≡ 88

two_on : (n k : ℕ) → XHere n k ⊎ ZHere n k → XHere (suc (suc n)) (suc (suc k)) ⊎ ZHere (suc (suc n)) (suc (suc k))
two_on n zero (inl x) = inl (record { here = x.here; next = x.next; last = refl })
two_on n (suc k) (inl x) = inl (record { here = x.here; next = x.next; last = x.last })
two_on n zero (inr z) = absurd (let e : ◌≡◌ {A = ℕ} 75 88 = z.last in omega arith)
two_on n (suc k) (inr z) = inr (record { here = z.here; next = z.next; last = z.last })

x_or_z : (n k : ℕ) → k < n → XHere n k ⊎ ZHere n k
x_or_z zero k l = absurd (omega arith)
x_or_z (suc zero) zero l = inl (record { here = refl; next = inr refl; last = refl })
x_or_z (suc zero) (suc k) l = absurd (omega arith)
x_or_z (suc (suc n)) zero l = inl (record { here = refl; next = inl refl; last = refl })
x_or_z (suc (suc n)) (suc zero) l = inr (record { here = refl; next = first_xz n; last = refl })
x_or_z (suc (suc n)) (suc (suc k)) l = two_on n k (x_or_z n k (omega arith))

-- ---- tests that fail by one byte
-- no text has the byte x at place k
abbrev differ : ℕ → ℕ → List (List ℕ) → Bool
differ x k [] = true
differ x k (t ∷ ts) = not (eqb x (get_or t k 0)) && differ x k ts

is_at_no : (u : List ℕ) (q n k x : ℕ) (t : List ℕ) → k < n → get_or u (q + k) 0 ≡ x → eqb x (get_or t k 0) ≡ false → is_at u q n t ≡ false
is_at_no u q n k x t l g e =
    no (is_at u q n t)
    (λ i. eqb-false x (get_or t k 0) e
    (sym g ∙ sym (get_or-drop q u k 0) ∙ sym (get_or-take n (drop q u) k 0 l) ∙ ap (λ (s : List ℕ). get_or s k 0) (is_at_true u q n t i).1))

sees_no : (u : List ℕ) (q n k x : ℕ) (ts : List (List ℕ)) → k < n → get_or u (q + k) 0 ≡ x → differ x k ts ≡ true → sees u q n ts ≡ false
unfolding sees
sees_no u q n k x [] l g d = refl
sees_no u q n k x (t ∷ ts) l g d =
    let h = both (not (eqb x (get_or t k 0))) (differ x k ts) d in
    simp (is_at_no u q n k x t l g (not-true _ h.0), sees_no u q n k x ts l g h.1)

byte_no : (u : List ℕ) (q b x : ℕ) → get_or u q 0 ≡ x → eqb x b ≡ false → byte_at u q b ≡ false
unfolding byte_at
byte_no u q b x g e = rw (g, e) (and-false (ltb q (length u)))

back_no : (p k : ℕ) (f : ℕ → Bool) → (k ≤ p → f (p - k) ≡ false) → step_back p k f ≡ false
back_no p k f h = go (leb k p) refl
  where
    go : (q : Bool) → leb k p ≡ q → (q && f (p - k)) ≡ false
    go true e = h (leb-true k p e)
    go false e = refl

-- a window that starts k bytes back, and has the byte y at its place j
back_sees_no : (u : List ℕ) (p k n j y : ℕ) (ts : List (List ℕ)) → j < n → (k ≤ p → get_or u (p - k + j) 0 ≡ y) → differ y j ts ≡ true
    → step_back p k (λ (q : ℕ). sees u q n ts) ≡ false
back_sees_no u p k n j y ts l g d = back_no p k (λ (q : ℕ). sees u q n ts) (λ h. sees_no u (p - k) n j y ts l (g h) d)

-- ---- the visits
-- an X behind place 0 that no U stands before, and no C or X behind, adds KS
x_visit : (ed : Edition) (u : List ℕ) (k x y : ℕ) → get_or u (suc k) 0 ≡ 88 → get_or u (suc (suc k)) 0 ≡ x → differ x 0 (map bytes ("C" ∷ "X" ∷ [])) ≡ true
    → get_or u k 0 ≡ y → eqb y 85 ≡ false → Twofold (visit u (suc k) (mode true (is_second ed)))
unfolding visit first holds rows cases_in cases_x
x_visit ed u k x y here next d last e =
    let n : sees u (suc k + 1) 1 (map bytes ("C" ∷ "X" ∷ [])) ≡ false =
    sees_no u (suc k + 1) 1 0 x (map bytes ("C" ∷ "X" ∷ [])) (omega arith) (let z : suc k + 1 + 0 ≡ suc (suc k) = omega arith in rw z next) d in
    let three : step_back (suc k) 3 (λ (q : ℕ). sees u q 3 (map bytes ("IAU" ∷ "EAU" ∷ []))) ≡ false =
    back_sees_no u (suc k) 3 3 2 y (map bytes ("IAU" ∷ "EAU" ∷ [])) (omega arith) (λ l. let z : suc k - 3 + 2 ≡ k = omega arith in rw z last) (simp e) in
    let two : step_back (suc k) 2 (λ (q : ℕ). sees u q 2 (map bytes ("AU" ∷ "OU" ∷ []))) ≡ false =
    back_sees_no u (suc k) 2 2 1 y (map bytes ("AU" ∷ "OU" ∷ [])) (omega arith) (λ l. let z : suc k - 2 + 1 ≡ k = omega arith in rw z last) (simp e) in
    let p : eqb (suc k) 0 ≡ false = ne_eqb (suc k) 0 (λ z. omega arith) in
    rw here (simp (p, n, three, two, and-false) (record { over = refl; added = refl }))

-- under the mark a Z behind place 0 that no T stands before, and no H or Z behind, adds TS to the alternate code
z_visit : (ed : Edition) (u : List ℕ) (k x : ℕ) → get_or u (suc k) 0 ≡ 90 → get_or u (suc (suc k)) 0 ≡ x → eqb x 72 ≡ false → eqb x 90 ≡ false
    → get_or u k 0 ≡ 88 → Twofold (visit u (suc k) (mode true (is_second ed)))
unfolding visit first holds rows cases_in cases_z
z_visit ed u k x here next h z last =
    let s : suc k + 1 ≡ suc (suc k) = omega arith in
    let no_h : byte_at u (suc k + 1) 72 ≡ false = byte_no u (suc k + 1) 72 x (rw s next) h in
    let no_z : byte_at u (suc k + 1) 90 ≡ false = byte_no u (suc k + 1) 90 x (rw s next) z in
    let no_t : byte_at u (suc k - 1) 84 ≡ false = byte_no u (suc k - 1) 84 88 (let e : suc k - 1 ≡ k = omega arith in rw e last) refl in
    let p : ltb 0 (suc k) ≡ true = lt-ltb 0 (suc k) (omega arith) in
    rw here (simp (no_h, no_z, no_t, p, or-true) (record { over = refl; added = refl }))

-- the K at place 0 that no K stands behind adds K
k_visit : (ed : Edition) (u : List ℕ) (x : ℕ) → get_or u 0 0 ≡ 75 → get_or u 1 0 ≡ x → eqb x 75 ≡ false → visit u 0 (mode true (is_second ed)) ≡ adds "K" "K" 0
unfolding visit first holds rows cases_in swallows
k_visit ed u x here next e =
    let n : byte_at u (0 + 1) 75 ≡ false = byte_no u (0 + 1) 75 x next e in
    rw here (simp n)

-- ---- the words K, KX, KXZ, ..
marks : (n : ℕ) → slavo_germanic (kxz n) ≡ true
unfolding slavo_germanic has_one begins_one is_at same
marks n = simp (le-leb 1 (suc (length (xz n))) (omega arith))

-- no X is the second letter of a silent start
no_silent : (n : ℕ) → (get_or (xz n) 0 0 ≡ 88) ⊎ (get_or (xz n) 0 0 ≡ 0) → sees (kxz n) 0 2 silent_starts ≡ false
no_silent n (inl e) = sees_no (kxz n) 0 2 1 88 silent_starts (omega arith) e refl
no_silent n (inr e) = sees_no (kxz n) 0 2 1 0 silent_starts (omega arith) e refl

starts : (n : ℕ) → start_of (kxz n) ≡ 0
unfolding start_of
starts n = rw (upper_kxz n) (simp (no_silent n (first_xz n)))

k_first : (ed : Edition) (n : ℕ) → (get_or (xz n) 0 0 ≡ 88) ⊎ (get_or (xz n) 0 0 ≡ 0) → visit (kxz n) 0 (mode true (is_second ed)) ≡ adds "K" "K" 0
k_first ed n (inl e) = k_visit ed (kxz n) 88 refl e refl
k_first ed n (inr e) = k_visit ed (kxz n) 0 refl e refl

twofold : (ed : Edition) (n k : ℕ) → XHere n k ⊎ ZHere n k → Twofold (visit (kxz n) (suc k) (mode true (is_second ed)))
twofold ed n k (inl x) = go x.next
  where
    go : (get_or (xz n) (suc k) 0 ≡ 90) ⊎ (get_or (xz n) (suc k) 0 ≡ 0) → Twofold (visit (kxz n) (suc k) (mode true (is_second ed)))
    go (inl e) = x_visit ed (kxz n) k 90 _ x.here e refl refl x.last
    go (inr e) = x_visit ed (kxz n) k 0 _ x.here e refl refl x.last
twofold ed n k (inr z) = go z.next
  where
    go : (get_or (xz n) (suc k) 0 ≡ 88) ⊎ (get_or (xz n) (suc k) 0 ≡ 0) → Twofold (visit (kxz n) (suc k) (mode true (is_second ed)))
    go (inl e) = z_visit ed (kxz n) k 88 z.here e refl refl z.last
    go (inr e) = z_visit ed (kxz n) k 0 z.here e refl refl z.last

-- the rule of such a word, which is in capitals and has the mark
rule_is : (ed : Edition) (n p : ℕ) → rule_of ed (kxz n) p ≡ visit (kxz n) p (mode true (is_second ed))
rule_is ed n p = rw (upper_kxz n, marks n)

behind_k : (ed : Edition) (n k : ℕ) → 1 ≤ k → k < 1 + length (xz n) → Twofold (rule_of ed (kxz n) k)
behind_k ed n zero l u = absurd (omega arith)
behind_k ed n (suc k) l u = rw (rule_is ed n (suc k)) (twofold ed n k (x_or_z n k (omega (arith, length_xz n))))

pub reached : (ed : Edition) (n : ℕ) → length (whole_of ed (kxz n)).alternate ≡ 2 * length (kxz n) - 1
unfolding visits_of
reached ed n = rw (starts n, sub-zero (length (kxz n))) (from_k (rule_of ed (kxz n)) (length (xz n)) (rule_is ed n 0 ∙ k_first ed n (first_xz n)) (behind_k ed n))
