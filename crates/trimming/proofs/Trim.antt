-- Trimming, one place at a time, and the part that two ends enclose.
use Prim.Native.Nat.{ℕ, zero, suc, ◌+◌, ◌-◌, ◌≤◌, ◌<◌}
use mathlib.Core.Path.{◌≡◌, refl, sym, ap, ◌∙◌}
use mathlib.Core.List.{List, [], ◌∷◌, ◌++◌}
use mathlib.Core.Bool.{Bool, true, false, cond}
use native.Mathlib.Omega.{arith}
use lib.ListN.{length, get_or, take, drop, length-drop}
use lib.Seq.{take_all, length-take-le}
use Rattle.trimming.specs.Trim.{blank, trim_start, keep, trim_end, trimmed, all_blank, Between}

-- what lies behind the first byte that is no blank, and before the last one
pub from_first : (w : List ℕ) (i : ℕ) → i ≤ length w → (i < length w → blank (get_or w i 0) ≡ false) → ((k : ℕ) → k < i → blank (get_or w k 0) ≡ true)
    → drop i w ≡ trim_start w
from_first [] zero l kept passed = refl
from_first [] (suc i) l kept passed = absurd (omega arith)
from_first (b ∷ w) zero l kept passed = rw (kept (omega arith))
from_first (b ∷ w) (suc i) l kept passed =
    rw (passed 0 (omega arith)) (from_first w i (omega arith) (λ h. kept (omega arith)) (λ k h. passed (suc k) (omega arith)))

keep_more : (b : ℕ) (w : List ℕ) → 0 < length w → keep b w ≡ b ∷ w
keep_more b [] h = absurd (omega arith)
keep_more b (x ∷ w) h = refl

pub to_last : (w : List ℕ) (e : ℕ) → e ≤ length w → ((k : ℕ) → e ≡ k + 1 → blank (get_or w k 0) ≡ false) → ((k : ℕ) → e ≤ k → k < length w → blank (get_or w k 0) ≡ true)
    → take e w ≡ trim_end w
to_last [] zero l kept passed = refl
to_last [] (suc e) l kept passed = absurd (omega arith)
to_last (b ∷ w) zero l kept passed =
    let none : [] ≡ trim_end w = to_last w 0 (omega arith) (λ k h. absurd (omega arith)) (λ k g h. passed (suc k) (omega arith) (omega arith)) in
    rw (sym none, passed 0 (omega arith) (omega arith)) refl
to_last (b ∷ w) (suc zero) l kept passed =
    let none : [] ≡ trim_end w = to_last w 0 (omega arith) (λ k h. absurd (omega arith)) (λ k g h. passed (suc k) (omega arith) (omega arith)) in
    rw (sym none, kept 0 (omega arith)) refl
to_last (b ∷ w) (suc (suc e)) l kept passed =
    let rest : take (suc e) w ≡ trim_end w = to_last w (suc e) (omega arith) (λ k h. kept (suc k) (omega arith)) (λ k g h. passed (suc k) (omega arith) (omega arith)) in
    let some : 0 < length (trim_end w) = rw (← rest) (omega (arith, length-take-le (suc e) w (omega arith))) in
    ap (λ (t : List ℕ). b ∷ t) rest ∙ sym (keep_more b (trim_end w) some)

-- the part of a word between its two ends is the trimmed word
pub record Inner (w : List ℕ) (from len : ℕ) : Type 0 where
  pub same : take (from + len - from) (drop from w) ≡ trimmed w
  pub long : len ≡ length (trimmed w)

pub inner : (w : List ℕ) (from len : ℕ) → drop from w ≡ trim_start w → len ≤ length (take (length w - from) (drop from w))
    → take len (take (length w - from) (drop from w)) ≡ trim_end (take (length w - from) (drop from w)) → Inner w from len
unfolding trimmed
inner w from len s l e =
    let r : take (length w - from) (drop from w) ≡ drop from w = take_all (length w - from) (drop from w) (omega (arith, length-drop from w)) in
    let l' : len ≤ length (drop from w) = rw r at l in
    let t : take len (drop from w) ≡ trim_end (trim_start w) = (rw r at e) ∙ ap trim_end s in
    let z : from + len - from ≡ len = omega arith in
    record { same = rw z t; long = sym (length-take-le len (drop from w) l') ∙ ap length t }

-- trimming makes no word longer
start_length : (w : List ℕ) → length (trim_start w) ≤ length w
start_length [] = omega arith
start_length (b ∷ w) = go (blank b) (start_length w)
  where
    go : (q : Bool) → length (trim_start w) ≤ length w → length (cond q (trim_start w) (b ∷ w)) ≤ suc (length w)
    go true h = omega arith
    go false h = omega arith

keep_length : (b : ℕ) (w : List ℕ) → length (keep b w) ≤ suc (length w)
keep_length b [] = go (blank b)
  where
    go : (q : Bool) → length (cond q [] (b ∷ [])) ≤ 1
    go true = omega arith
    go false = omega arith
keep_length b (x ∷ w) = omega arith

end_length : (w : List ℕ) → length (trim_end w) ≤ length w
end_length [] = omega arith
end_length (b ∷ w) = omega (arith, keep_length b (trim_end w), end_length w)

pub trimmed_length : (w : List ℕ) → length (trimmed w) ≤ length w
unfolding trimmed
trimmed_length w = omega (arith, start_length w, end_length (trim_start w))

-- the trimmed word is what lies between blanks
front_split : (w : List ℕ) → (before : List ℕ) × (w ≡ before ++ trim_start w) × (all_blank before ≡ true)
front_split [] = ([], refl, refl)
front_split (b ∷ w) = go (blank b) refl (front_split w)
  where
    go : (q : Bool) → blank b ≡ q → ((before : List ℕ) × (w ≡ before ++ trim_start w) × (all_blank before ≡ true))
        → (before : List ℕ) × (b ∷ w ≡ before ++ cond q (trim_start w) (b ∷ w)) × (all_blank before ≡ true)
    go true e (before, s, h) = (b ∷ before, ap (λ (l : List ℕ). b ∷ l) s, rw e h)
    go false e r = ([], refl, refl)

-- the byte b before the rest w, which trims to t
back_keep : (b : ℕ) (w t : List ℕ) → ((after : List ℕ) × (w ≡ t ++ after) × (all_blank after ≡ true))
    → (after : List ℕ) × (b ∷ w ≡ keep b t ++ after) × (all_blank after ≡ true)
back_keep b w (x ∷ t) (after, s, h) = (after, ap (λ (l : List ℕ). b ∷ l) s, h)
back_keep b w [] (after, s, h) = go (blank b) refl
  where
    go : (q : Bool) → blank b ≡ q → (after : List ℕ) × (b ∷ w ≡ cond q [] (b ∷ []) ++ after) × (all_blank after ≡ true)
    go true e = (b ∷ after, ap (λ (l : List ℕ). b ∷ l) s, rw e h)
    go false e = (after, ap (λ (l : List ℕ). b ∷ l) s, h)

back_split : (w : List ℕ) → (after : List ℕ) × (w ≡ trim_end w ++ after) × (all_blank after ≡ true)
back_split [] = ([], refl, refl)
back_split (b ∷ w) = back_keep b w (trim_end w) (back_split w)

pub keep_any : (b : ℕ) (w : List ℕ) → blank b ≡ false → keep b w ≡ b ∷ w
keep_any b [] e = rw e
keep_any b (x ∷ w) e = refl

-- its first byte is none, since only blanks go from the end
first_kept : (w : List ℕ) → 0 < length (trimmed w) → blank (get_or (trimmed w) 0 0) ≡ false
unfolding trimmed
first_kept [] h = absurd (omega arith)
first_kept (b ∷ w) h = go (blank b) refl h (first_kept w)
  where
    go : (q : Bool) → blank b ≡ q → 0 < length (trim_end (cond q (trim_start w) (b ∷ w)))
        → (0 < length (trim_end (trim_start w)) → blank (get_or (trim_end (trim_start w)) 0 0) ≡ false)
        → blank (get_or (trim_end (cond q (trim_start w) (b ∷ w))) 0 0) ≡ false
    go true e h rest = rest h
    go false e h rest = ap (λ (l : List ℕ). blank (get_or l 0 0)) (keep_any b (trim_end w) e) ∙ e

-- and its last is none
last_keep : (b : ℕ) (t : List ℕ) → (0 < length t → blank (get_or t (length t - 1) 0) ≡ false) → 0 < length (keep b t)
    → blank (get_or (keep b t) (length (keep b t) - 1) 0) ≡ false
last_keep b (x ∷ t) rest h =
    let s : suc (suc (length t)) - 1 ≡ suc (suc (length t) - 1) = omega arith in
    rw s (rest (omega arith))
last_keep b [] rest h = go (blank b) refl h
  where
    go : (q : Bool) → blank b ≡ q → 0 < length (cond q [] (b ∷ [])) → blank (get_or (cond q [] (b ∷ [])) (length (cond q [] (b ∷ [])) - 1) 0) ≡ false
    go true e h = absurd (omega arith)
    go false e h = e

last_kept : (w : List ℕ) → 0 < length (trim_end w) → blank (get_or (trim_end w) (length (trim_end w) - 1) 0) ≡ false
last_kept [] h = absurd (omega arith)
last_kept (b ∷ w) h = last_keep b (trim_end w) (last_kept w) h

pub between_blanks : (w : List ℕ) → Between w (trimmed w)
unfolding trimmed
between_blanks w = go (front_split w) (back_split (trim_start w))
  where
    go : ((before : List ℕ) × (w ≡ before ++ trim_start w) × (all_blank before ≡ true))
        → ((after : List ℕ) × (trim_start w ≡ trim_end (trim_start w) ++ after) × (all_blank after ≡ true)) → Between w (trim_end (trim_start w))
    go (before, s, h) (after, s', h') =
        record {
          before = before;
          after = after;
          whole = s ∙ ap (λ (l : List ℕ). before ++ l) s';
          blank_before = h;
          blank_after = h';
          first = first_kept w;
          last = last_kept (trim_start w);
        }
