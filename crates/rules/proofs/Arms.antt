-- The cases of a byte, as the arms of a match on it in either case: what the first case of its capital's letter answers is the visit.
-- A byte that is a key of no letter has the cases of the rest, and so has a place where no byte stands.
use Prim.Native.Char.{Char, code}
use Prim.Native.Nat.{ℕ, ◌+◌, ◌-◌, ◌≤◌}
use Prim.Native.String.{String}
use mathlib.Core.Path.{◌≡◌, refl, sym, ap, ◌∙◌}
use mathlib.Core.Bool.{Bool, true, false, false≢true, cond, ◌&&◌, ◌||◌, or-true}
use mathlib.Core.List.{List, [], ◌∷◌, ◌++◌, map}
use mathlib.Core.Logic.{inl, inr}
use native.Mathlib.Omega.{arith}
use borrow.Author.Tests.{eqb-true, eq-eqb}
use lib.Dec.{leb, eqb}
use lib.ListN.{length, get_or, get_or-eq_default}
use Rattle.basics.proofs.Every.{every}
use Rattle.byte.specs.Text.{bytes, up, upper}
use Rattle.spots.specs.Spot.{byte_at}
use Rattle.byte.specs.Vowel.{among}
use Rattle.basics.proofs.Tests.{no, both, either}
use Rattle.byte.proofs.Case.{small_letter, get_d_upper}
use Rattle.rules.specs.Cond.{Mode, plain, marked, edited, holds}
use Rattle.rules.specs.Case.{Case, adds}
use Rattle.outcome.specs.Answers.{spoke}
use Rattle.rules.specs.Told.{text_of, numbered, speaker}
use Rattle.rules.specs.Plain.{swallows, cases_vowel, cases_rest}
use Rattle.rules.specs.Table.{Row, rows, cases_in, spoken_at}
use Rattle.outcome.specs.declared.Spoken.{Spoken}
use Rattle.rules.proofs.Mode.{asks_cases, Same, same_speaker, told_mark, told_edition, told_none}
use types.Run.{OneOf}

-- ---- the cases of a byte, which a match on it has as capital and as small letter
abbrev cased : List ℕ → List ℕ
cased ks = ks ++ map (λ (k : ℕ). k + 32) ks

is_among : (ks : List ℕ) (y : ℕ) → among ks y ≡ true → OneOf ks y
is_among [] y e = absurd (false≢true e)
is_among (k ∷ []) y e = either (eqb y k) false e _ (λ h. eqb-true y k h) (λ h. absurd (false≢true h))
is_among (k ∷ k' ∷ ks) y e =
    either (eqb y k) (among (k' ∷ ks) y) e _ (λ h. inl (eqb-true y k h)) (λ h. inr (is_among (k' ∷ ks) y h))

among_either : (ks ls : List ℕ) (y : ℕ) → (among ks y || among ls y) ≡ true → among (ks ++ ls) y ≡ true
among_either [] ls y e = e
among_either (k ∷ ks) ls y e =
    either (eqb y k || among ks y) (among ls y) e _
    (λ h. either (eqb y k) (among ks y) h _ (λ a. simp a) (λ a. simp (among_either ks ls y (simp a), or-true)))
    (λ h. simp (among_either ks ls y (simp (h, or-true)), or-true))

-- the key that a small letter's capital is, stands 32 below it
among_small : (ks : List ℕ) (y : ℕ) → 32 ≤ y → among ks (y - 32) ≡ true → among (map (λ (k : ℕ). k + 32) ks) y ≡ true
among_small [] y l e = e
among_small (k ∷ ks) y l e =
    either (eqb (y - 32) k) (among ks (y - 32)) e _
    (λ h. simp (eq-eqb y (k + 32) (omega (arith, eqb-true (y - 32) k h))))
    (λ h. simp (among_small ks y l h, or-true))

one_cased : (ks : List ℕ) (y : ℕ) → among ks (up y) ≡ true → OneOf (cased ks) y
unfolding up
one_cased ks y e = is_among (cased ks) y (among_either ks (map (λ (k : ℕ). k + 32) ks) y (by (leb 97 y && leb y 122) refl e))
  where
    by : (t : Bool) → (leb 97 y && leb y 122) ≡ t → among ks (cond t (y - 32) y) ≡ true → (among ks y || among (map (λ (k : ℕ). k + 32) ks) y) ≡ true
    by true a b = simp (among_small ks y (omega (arith, small_letter y a)) b, or-true)
    by false a b = simp b

-- the byte is a key of no letter: what the last arm of the match knows, with what it knew before in front
abbrev None : Type 0 → List Row → ℕ → Type 0
None N [] y = N
None N (r ∷ rs) y = None (N × (OneOf (cased (bytes r.keys)) y → ⊥)) rs y

known : (rs : List Row) (N : Type 0) (y : ℕ) → None N rs y → N
known [] N y n = n
known (r ∷ rs) N y n = (known rs (N × (OneOf (cased (bytes r.keys)) y → ⊥)) y n).0

in_none : (rs : List Row) (N : Type 0) (y : ℕ) → None N rs y → cases_in rs (up y) ≡ cases_rest
unfolding cases_in
in_none [] N y n = refl
in_none (r ∷ rs) N y n =
    let h = (known rs (N × (OneOf (cased (bytes r.keys)) y → ⊥)) y n).1 in
    simp (no (among (bytes r.keys) (up y)) (λ e. h (one_cased (bytes r.keys) y e)))
    (in_none rs (N × (OneOf (cased (bytes r.keys)) y → ⊥)) y n)

-- what an arm of the match knows
every_of : (f : ℕ → Bool) (ks : List ℕ) (y : ℕ) → every f ks ≡ true → OneOf ks y → f y ≡ true
every_of f [] y e h = absurd h
every_of f (k ∷ []) y e h = ap f h ∙ (both (f k) true e).0
every_of f (k ∷ k' ∷ ks) y e (inl h) = ap f h ∙ (both (f k) (every f (k' ∷ ks)) e).0
every_of f (k ∷ k' ∷ ks) y e (inr h) = every_of f (k' ∷ ks) y (both (f k) (every f (k' ∷ ks)) e).1 h

pub key : (b : ℕ) {y : ℕ} → up b ≡ b → up (b + 32) ≡ b → OneOf (b ∷ (b + 32) ∷ []) y → up y ≡ b
key b e f (inl h) = ap up h ∙ e
key b e f (inr h) = ap up h ∙ f

in_vowels : (x : ℕ) → among (bytes "AEIOUY") x ≡ true → cases_in rows x ≡ cases_vowel
unfolding cases_in rows
in_vowels x k = simp k

-- no byte stands past the end, which reads as 0
pub past_zero : (w : List ℕ) (p : ℕ) → length w ≤ p → up (get_or w p 0) ≡ 0
unfolding up
past_zero w p h = ap up (get_or-eq_default w 0 h)

-- ---- a letter of one sound
swallowed : (l : Char) (s : String) (u : List ℕ) (p : ℕ) (m : Mode)
    → cond (byte_at u (p + 1) (code l)) (spoke 1 0 (adds s s 1)) (spoke 2 0 (adds s s 0)) ≡ speaker (numbered (swallows l s)) u p m
unfolding swallows speaker holds text_of
swallowed l s u p m = refl

-- ---- the arms of the match. `x` is the visited byte's capital, `v` what the arm answers
module _ (w : List ℕ) (p : ℕ) (m : Mode) (v : Spoken) where
  abbrev x : ℕ
  x = up (get_or w p 0)

  visit_by : (cs : List Case) → cases_in rows x ≡ cs → v ≡ speaker (numbered cs) (upper w) p m → v ≡ spoken_at (upper w) p m
  unfolding spoken_at
  visit_by cs e h =
      h ∙ ap (λ (ds : List Case). speaker (numbered ds) (upper w) p m) (sym (ap (cases_in rows) (get_d_upper w p) ∙ e))

  -- a letter whose rule is told the mode `n`, which has all of `m` that it asks for
  arm : (i j : Bool) (n : Mode) → Same i j n m → (b : ℕ) → asks_cases i j (cases_in rows b) ≡ true → x ≡ b
      → v ≡ speaker (numbered (cases_in rows b)) (upper w) p n → v ≡ spoken_at (upper w) p m
  arm i j n s b f k h = visit_by (cases_in rows b) (ap (cases_in rows) k) (h ∙ same_speaker i j (upper w) p n m s (cases_in rows b) 1 f)

  -- the mark alone, the edition alone, neither
  pub arm_marked : (b : ℕ) → asks_cases true false (cases_in rows b) ≡ true → x ≡ b → v ≡ speaker (numbered (cases_in rows b)) (upper w) p (marked m.mark) → v ≡ spoken_at (upper w) p m
  arm_marked b f k h = arm true false (marked m.mark) (told_mark m) b f k h

  pub arm_edited : (b : ℕ) → asks_cases false true (cases_in rows b) ≡ true → x ≡ b → v ≡ speaker (numbered (cases_in rows b)) (upper w) p (edited m.second) → v ≡ spoken_at (upper w) p m
  arm_edited b f k h = arm false true (edited m.second) (told_edition m) b f k h

  pub arm_free : (b : ℕ) → asks_cases false false (cases_in rows b) ≡ true → x ≡ b → v ≡ speaker (numbered (cases_in rows b)) (upper w) p plain → v ≡ spoken_at (upper w) p m
  arm_free b f k h = arm false false plain (told_none plain m) b f k h

  -- one of one sound
  pub arm_plain : (l : Char) (s : String) → cases_in rows (code l) ≡ swallows l s → x ≡ code l
      → v ≡ cond (byte_at (upper w) (p + 1) (code l)) (spoke 1 0 (adds s s 1)) (spoke 2 0 (adds s s 0)) → v ≡ spoken_at (upper w) p m
  arm_plain l s e k h = visit_by (swallows l s) (ap (cases_in rows) k ∙ e) (h ∙ swallowed l s (upper w) p m)

  pub arm_vowel : OneOf (cased (bytes "AEIOUY")) (get_or w p 0) → v ≡ speaker (numbered cases_vowel) (upper w) p plain → v ≡ spoken_at (upper w) p m
  unfolding cases_vowel up
  arm_vowel k h = visit_by cases_vowel (in_vowels x (every_of (λ (y : ℕ). among (bytes "AEIOUY") (up y)) (cased (bytes "AEIOUY")) (get_or w p 0) refl k)) (h ∙ same_speaker false false (upper w) p plain m (told_none plain m) cases_vowel 1 refl)

  pub arm_rest : None (Unit {0}) rows (get_or w p 0) → v ≡ spoke 1 0 (adds "" "" 0) → v ≡ spoken_at (upper w) p m
  unfolding cases_rest speaker holds text_of
  arm_rest n h = visit_by cases_rest (in_none rows (Unit {0}) (get_or w p 0) n) h
