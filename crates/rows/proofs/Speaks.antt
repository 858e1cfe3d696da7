-- Every visit is told by the case of its number, the first that holds, and a text's number is 0 or names a text that stands at its
-- window.
use Prim.Native.Nat.{ℕ, zero, suc, ◌+◌, ◌-◌, ◌≤◌, ◌<◌}
use Prim.Native.String.{String}
use mathlib.Core.Path.{◌≡◌, refl, sym, ap, ◌∙◌}
use mathlib.Core.Bool.{Bool, true, false, false≢true, cond, ◌&&◌}
use mathlib.Core.List.{List, [], ◌∷◌, ◌++◌, map}
use mathlib.Core.Logic.{◌⊎◌, inl, inr}
use native.Mathlib.Omega.{arith}
use borrow.Author.Tests.{eqb-false, leb-true}
use lib.Dec.{eqb, leb}
use lib.ListN.{length, get_or, length-append, get_or-append}
use lib.Seq.{get_or-append-add}
use Rattle.byte.specs.Text.{bytes}
use Rattle.windows.specs.Window.{is_at, text_from, text_at}
use Rattle.rules.specs.Cond.{Spot, ahead, back, front, rear, Cond, Mode, always, window, byte, vowel, place, past, below, left, long, slavo, edition2, non, ◌&◌, ◌or◌, at, holds}
use Rattle.rules.specs.Case.{Case, case, gives}
use Rattle.outcome.specs.Answers.{or_else}
use Rattle.rules.specs.Told.{text_of, numbered_from, speaker}
use Rattle.rules.specs.Table.{rows, cases_in, spoken_at}
use Rattle.rows.specs.Speaks.{the_case, Says, Window, as_window, windows_of, Named}
use Rattle.rules.specs.Plain.{swallows, cases_vowel, cases_rest}
use Rattle.rules.specs.CasesC.{cases_c}
use Rattle.rules.specs.CasesDL.{cases_d, cases_h, cases_j, cases_l}
use Rattle.rules.specs.CasesG.{cases_g}
use Rattle.rules.specs.CasesMZ.{cases_m, cases_p, cases_r, cases_t, cases_w, cases_x, cases_z}
use Rattle.rules.specs.CasesS.{cases_s}
use Rattle.outcome.specs.declared.Spoken.{Spoken}
use Rattle.basics.proofs.Tests.{both}
use Rattle.basics.proofs.Every.{every}
use Rattle.rules.proofs.Each.{row_passes}

abbrev pub other : Case
other = case always "" "" 0

-- ---- the case
-- s is what the case behind `k` others says, numbered from i, and none of those holds
record Behind (i : ℕ) (cs : List Case) (u : List ℕ) (p : ℕ) (m : Mode) (s : Spoken) : Type 0 where
  k : ℕ
  inside : k < length cs
  number : s.case ≡ i + k
  holding : holds (get_or cs k other).when u p m ≡ true
  none_before : (j : ℕ) → j < k → holds (get_or cs j other).when u p m ≡ false
  text : s.text ≡ text_of (get_or cs k other).when u p
  visit : s.visit ≡ gives (get_or cs k other)

-- the last case of a list asks nothing
abbrev asks_nothing : Cond → Bool
asks_nothing always = true
asks_nothing (window s n ts) = false
asks_nothing (byte s b) = false
asks_nothing (vowel s) = false
asks_nothing (place k) = false
asks_nothing (past k) = false
asks_nothing (below k) = false
asks_nothing (left k) = false
asks_nothing (long n) = false
asks_nothing slavo = false
asks_nothing edition2 = false
asks_nothing (non c) = false
asks_nothing (c & d) = false
asks_nothing (c or d) = false

abbrev closes : List Case → Bool
closes [] = false
closes (c ∷ []) = asks_nothing c.when
closes (c ∷ d ∷ cs) = closes (d ∷ cs)

asks_nothing_lem : (c : Cond) → asks_nothing c ≡ true → (u : List ℕ) (p : ℕ) (m : Mode) → holds c u p m ≡ true
unfolding holds
asks_nothing_lem always e u p m = refl
asks_nothing_lem (window s n ts) e u p m = absurd (false≢true e)
asks_nothing_lem (byte s b) e u p m = absurd (false≢true e)
asks_nothing_lem (vowel s) e u p m = absurd (false≢true e)
asks_nothing_lem (place k) e u p m = absurd (false≢true e)
asks_nothing_lem (past k) e u p m = absurd (false≢true e)
asks_nothing_lem (below k) e u p m = absurd (false≢true e)
asks_nothing_lem (left k) e u p m = absurd (false≢true e)
asks_nothing_lem (long n) e u p m = absurd (false≢true e)
asks_nothing_lem slavo e u p m = absurd (false≢true e)
asks_nothing_lem edition2 e u p m = absurd (false≢true e)
asks_nothing_lem (non c) e u p m = absurd (false≢true e)
asks_nothing_lem (c & d) e u p m = absurd (false≢true e)
asks_nothing_lem (c or d) e u p m = absurd (false≢true e)

module _ (u : List ℕ) (p : ℕ) (m : Mode) where
  here : (i : ℕ) (c : Case) (cs : List Case) → holds c.when u p m ≡ true → Behind i (c ∷ cs) u p m (speaker (numbered_from i (c ∷ cs)) u p m)
  unfolding speaker
  here i c cs h =
      rw h (record { k = 0; inside = omega arith; number = omega arith; holding = h; none_before = λ j l. absurd (omega arith); text = refl; visit = refl })

  further : (i : ℕ) (c : Case) (cs : List Case) → holds c.when u p m ≡ false → Behind (i + 1) cs u p m (speaker (numbered_from (i + 1) cs) u p m)
      → Behind i (c ∷ cs) u p m (speaker (numbered_from i (c ∷ cs)) u p m)
  unfolding speaker
  further i c cs h b =
      rw h
      (record {
        k = suc b.k;
        inside = omega (arith, b.inside);
        number = omega (arith, b.number);
        holding = b.holding;
        none_before = before;
        text = b.text;
        visit = b.visit;
      })
    where
      before : (j : ℕ) → j < suc b.k → holds (get_or (c ∷ cs) j other).when u p m ≡ false
      before zero l = h
      before (suc j) l = b.none_before j (omega arith)

  speaks_from : (i : ℕ) (cs : List Case) → closes cs ≡ true → Behind i cs u p m (speaker (numbered_from i cs) u p m)
  speaks_from i [] e = absurd (false≢true e)
  speaks_from i (c ∷ []) e = here i c [] (asks_nothing_lem c.when e u p m)
  speaks_from i (c ∷ d ∷ cs) e = by (holds c.when u p m) refl (speaks_from (i + 1) (d ∷ cs) e)
    where
      by : (b : Bool) → holds c.when u p m ≡ b → Behind (i + 1) (d ∷ cs) u p m (speaker (numbered_from (i + 1) (d ∷ cs)) u p m)
          → Behind i (c ∷ d ∷ cs) u p m (speaker (numbered_from i (c ∷ d ∷ cs)) u p m)
      by true h b = here i c (d ∷ cs) h
      by false h b = further i c (d ∷ cs) h b

  numbered_one : (cs : List Case) (s : Spoken) → Behind 1 cs u p m s → Says cs u p m s
  numbered_one cs s b =
      let e : s.case - 1 ≡ b.k = omega (arith, b.number) in
      record {
        case =
            record {
              from_one = omega (arith, b.number);
              one_of_them = omega (arith, b.number, b.inside);
              holding = ap (λ (j : ℕ). holds (get_or cs j other).when u p m) e ∙ b.holding;
              none_before = λ i l h. b.none_before (i - 1) (omega (arith, b.number));
            };
        text = b.text ∙ ap (λ (j : ℕ). text_of (get_or cs j other).when u p) (sym e);
        visit = b.visit ∙ ap (λ (j : ℕ). gives (get_or cs j other)) (sym e);
      }

-- each letter's last case asks nothing
rows_close : (b : ℕ) → closes (cases_in rows b) ≡ true
unfolding rows swallows cases_c cases_d cases_g cases_h cases_j cases_l cases_m cases_p cases_r cases_s cases_t cases_w cases_x cases_z cases_vowel cases_rest
rows_close b = row_passes closes rows b refl

pub says : (u : List ℕ) (p : ℕ) (m : Mode) → Says (cases_in rows (get_or u p 0)) u p m (spoken_at u p m)
unfolding spoken_at
says u p m = numbered_one u p m (cases_in rows (get_or u p 0)) _ (speaks_from u p m 1 (cases_in rows (get_or u p 0)) (rows_close (get_or u p 0)))

-- ---- the text
abbrev nowhere : Window
nowhere = as_window (front 0) 0 []

module _ (u : List ℕ) (p : ℕ) where
  -- a list's text of a number stands at the place
  record Found (q n : ℕ) (ts : List String) (i k : ℕ) : Type 0 where
    j : ℕ
    inside : j < length ts
    number : k ≡ i + j
    stands : is_at u q n (bytes (get_or ts j "")) ≡ true

  found : (q n : ℕ) (ts : List String) (i : ℕ) → (text_from i u q n (map bytes ts) ≡ 0) ⊎ Found q n ts i (text_from i u q n (map bytes ts))
  unfolding text_from
  found q n [] i = inl refl
  found q n (t ∷ ts) i = by (is_at u q n (bytes t)) refl (found q n ts (i + 1))
    where
      by : (b : Bool) → is_at u q n (bytes t) ≡ b → (text_from (i + 1) u q n (map bytes ts) ≡ 0) ⊎ Found q n ts (i + 1) (text_from (i + 1) u q n (map bytes ts))
          → (cond b i (text_from (i + 1) u q n (map bytes ts)) ≡ 0) ⊎ Found q n (t ∷ ts) i (cond b i (text_from (i + 1) u q n (map bytes ts)))
      by true e r = inr (record { j = 0; inside = omega arith; number = omega arith; stands = e })
      by false e (inl z) = inl z
      by false e (inr f) = inr (record { j = suc f.j; inside = omega (arith, f.inside); number = omega (arith, f.number); stands = f.stands })

  -- as the number of a window's text
  one_window : (s : Spot) (n : ℕ) (ts : List String) (q : ℕ) {k : ℕ} → Found q n ts 1 k
      → ((t : List ℕ) → is_at u q n t ≡ true → at s u p (λ (r : ℕ). is_at u r n t) ≡ true) → Named (as_window s n ts ∷ []) u p k
  one_window s n ts q {k} f there =
      let e : k - 1 ≡ f.j = omega (arith, f.number) in
      record {
        index = 0;
        inside = omega arith;
        from_one = omega (arith, f.number);
        one_of_them = omega (arith, f.number, f.inside);
        stands = ap (λ (j : ℕ). at s u p (λ (r : ℕ). is_at u r n (bytes (get_or ts j "")))) e ∙ there (bytes (get_or ts f.j "")) f.stands;
      }

  -- a window tells nothing, or a text of its own
  window_told : (s : Spot) (n : ℕ) (ts : List String) → (text_of (window s n ts) u p ≡ 0) ⊎ Named (as_window s n ts ∷ []) u p (text_of (window s n ts) u p)
  unfolding text_of
  window_told (ahead k) n ts = ahead_of (found (p + k) n ts 1)
    where
      ahead_of : (text_at u (p + k) n (map bytes ts) ≡ 0) ⊎ Found (p + k) n ts 1 (text_at u (p + k) n (map bytes ts))
          → (text_at u (p + k) n (map bytes ts) ≡ 0) ⊎ Named (as_window (ahead k) n ts ∷ []) u p (text_at u (p + k) n (map bytes ts))
      ahead_of (inl z) = inl z
      ahead_of (inr f) = inr (one_window (ahead k) n ts (p + k) f (λ t h. h))
  window_told (back k) n ts = back_of (leb k p) refl (found (p - k) n ts 1)
    where
      back_of : (b : Bool) → leb k p ≡ b → (text_at u (p - k) n (map bytes ts) ≡ 0) ⊎ Found (p - k) n ts 1 (text_at u (p - k) n (map bytes ts))
          → (cond b (text_at u (p - k) n (map bytes ts)) 0 ≡ 0) ⊎ Named (as_window (back k) n ts ∷ []) u p (cond b (text_at u (p - k) n (map bytes ts)) 0)
      back_of true e (inl z) = inl z
      back_of true e (inr f) = inr (one_window (back k) n ts (p - k) f (λ t h. rw e h))
      back_of false e r = inl refl
  window_told (front k) n ts = front_of_lem (found k n ts 1)
    where
      front_of_lem : (text_at u k n (map bytes ts) ≡ 0) ⊎ Found k n ts 1 (text_at u k n (map bytes ts))
          → (text_at u k n (map bytes ts) ≡ 0) ⊎ Named (as_window (front k) n ts ∷ []) u p (text_at u k n (map bytes ts))
      front_of_lem (inl z) = inl z
      front_of_lem (inr f) = inr (one_window (front k) n ts k f (λ t h. h))
  window_told (rear k) n ts = rear_of (leb k (length u)) refl (found (length u - k) n ts 1)
    where
      rear_of : (b : Bool) → leb k (length u) ≡ b → (text_at u (length u - k) n (map bytes ts) ≡ 0) ⊎ Found (length u - k) n ts 1 (text_at u (length u - k) n (map bytes ts))
          → (cond b (text_at u (length u - k) n (map bytes ts)) 0 ≡ 0) ⊎ Named (as_window (rear k) n ts ∷ []) u p (cond b (text_at u (length u - k) n (map bytes ts)) 0)
      rear_of true e (inl z) = inl z
      rear_of true e (inr f) = inr (one_window (rear k) n ts (length u - k) f (λ t h. rw e h))
      rear_of false e r = inl refl

  -- of two lists of windows the first that tells
  in_first : (ws vs : List Window) {k : ℕ} → Named ws u p k → Named (ws ++ vs) u p k
  in_first ws vs {k} x =
      let e : get_or (ws ++ vs) x.index nowhere ≡ get_or ws x.index nowhere = get_or-append ws vs nowhere x.index x.inside in
      record {
        index = x.index;
        inside = omega (arith, x.inside, length-append ws vs);
        from_one = x.from_one;
        one_of_them = rw e x.one_of_them;
        stands = rw e x.stands;
      }

  in_second : (ws vs : List Window) {k : ℕ} → Named vs u p k → Named (ws ++ vs) u p k
  in_second ws vs {k} x =
      let e : get_or (ws ++ vs) (length ws + x.index) nowhere ≡ get_or vs x.index nowhere = get_or-append-add ws vs x.index nowhere in
      record {
        index = length ws + x.index;
        inside = omega (arith, x.inside, length-append ws vs);
        from_one = x.from_one;
        one_of_them = rw e x.one_of_them;
        stands = rw e x.stands;
      }

  or_else_told : (ws vs : List Window) (a b : ℕ) → (a ≡ 0) ⊎ Named ws u p a → (b ≡ 0) ⊎ Named vs u p b → (or_else a b ≡ 0) ⊎ Named (ws ++ vs) u p (or_else a b)
  or_else_told ws vs a b x y = by (eqb a 0) refl x y
    where
      by : (z : Bool) → eqb a 0 ≡ z → (a ≡ 0) ⊎ Named ws u p a → (b ≡ 0) ⊎ Named vs u p b → (cond z b a ≡ 0) ⊎ Named (ws ++ vs) u p (cond z b a)
      by true e x (inl z) = inl z
      by true e x (inr y) = inr (in_second ws vs y)
      by false e (inl z) y = absurd (eqb-false a 0 e z)
      by false e (inr x) y = inr (in_first ws vs x)

  pub text_stands : (c : Cond) → (text_of c u p ≡ 0) ⊎ Named (windows_of c) u p (text_of c u p)
  unfolding text_of
  text_stands always = inl refl
  text_stands (window s n ts) = window_told s n ts
  text_stands (byte s b) = inl refl
  text_stands (vowel s) = inl refl
  text_stands (place k) = inl refl
  text_stands (past k) = inl refl
  text_stands (below k) = inl refl
  text_stands (left k) = inl refl
  text_stands (long n) = inl refl
  text_stands slavo = inl refl
  text_stands edition2 = inl refl
  text_stands (non c) = inl refl
  text_stands (c & d) = or_else_told (windows_of c) (windows_of d) (text_of c u p) (text_of d u p) (text_stands c) (text_stands d)
  text_stands (c or d) = or_else_told (windows_of c) (windows_of d) (text_of c u p) (text_of d u p) (text_stands c) (text_stands d)

-- ---- both numbers are small: no letter has more than 18 cases, and no window more than 11 texts
abbrev few_texts : List Window → Bool
few_texts [] = true
few_texts (w ∷ ws) = leb (length w.texts) 11 && few_texts ws

few_texts_lem : (ws : List Window) (i : ℕ) → few_texts ws ≡ true → length (get_or ws i nowhere).texts ≤ 11
few_texts_lem [] i e = omega arith
few_texts_lem (w ∷ ws) zero e = leb-true _ _ (both (leb (length w.texts) 11) (few_texts ws) e).0
few_texts_lem (w ∷ ws) (suc i) e = few_texts_lem ws i (both (leb (length w.texts) 11) (few_texts ws) e).1

abbrev few : List Case → Bool
few cs = leb (length cs) 18 && every (λ (c : Case). few_texts (windows_of c.when)) cs

rows_few : (b : ℕ) → few (cases_in rows b) ≡ true
unfolding rows swallows cases_c cases_d cases_g cases_h cases_j cases_l cases_m cases_p cases_r cases_s cases_t cases_w cases_x cases_z cases_vowel cases_rest
rows_few b = row_passes few rows b refl

pub every_at : (f : Case → Bool) (cs : List Case) (i : ℕ) → f other ≡ true → every f cs ≡ true → f (get_or cs i other) ≡ true
every_at f [] i o e = o
every_at f (c ∷ cs) zero o e = (both (f c) (every f cs) e).0
every_at f (c ∷ cs) (suc i) o e = every_at f cs i o (both (f c) (every f cs) e).1

module _ (u : List ℕ) (p : ℕ) (m : Mode) where
  abbrev cases : List Case
  cases = cases_in rows (get_or u p 0)

  -- a visit's text is 0, or one of the texts of its case that stands at its window
  pub spoken_text : ((spoken_at u p m).text ≡ 0) ⊎ Named (windows_of (the_case cases (spoken_at u p m).case).when) u p (spoken_at u p m).text
  spoken_text = rw (says u p m).text (text_stands u p (the_case cases (spoken_at u p m).case).when)

  pub case_small : (spoken_at u p m).case ≤ 18
  case_small =
      let h = both (leb (length cases) 18) _ (rows_few (get_or u p 0)) in
      omega (arith, (says u p m).case.one_of_them, leb-true (length cases) 18 h.0)

  pub text_small : (spoken_at u p m).text ≤ 11
  text_small = by spoken_text
    where
      by : ((spoken_at u p m).text ≡ 0) ⊎ Named (windows_of (the_case cases (spoken_at u p m).case).when) u p (spoken_at u p m).text → (spoken_at u p m).text ≤ 11
      by (inl z) = omega arith
      by (inr x) =
          let h = both (leb (length cases) 18) _ (rows_few (get_or u p 0)) in
          let f = every_at (λ (c : Case). few_texts (windows_of c.when)) cases ((spoken_at u p m).case - 1) refl h.1 in
          omega (arith, x.one_of_them, few_texts_lem (windows_of (the_case cases (spoken_at u p m).case).when) x.index f)
