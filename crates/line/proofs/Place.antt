-- Laws of bytes stored in a buffer, and of a line's parts as they come to lie there.
use Prim.Native.Nat.{ℕ, suc, ◌+◌, ◌-◌, ◌≤◌}
use mathlib.Core.Path.{◌≡◌, refl, sym, ap, subst, ◌∙◌}
use mathlib.Core.List.{List, [], ◌∷◌, ◌++◌, append_assoc, append-nil}
use native.Mathlib.Nat.{zero-add}
use native.Mathlib.Numerals.{add-one}
use native.Mathlib.Omega.{arith}
use borrow.Rule.Slice.PartMut.{mid_of, put_mid}
use lib.ListN.{length, take, drop, set, get_or, length-append, length-drop, length-set, length-take, drop_of_length-le}
use lib.Seq.{sets, sets-eq, length-sets, take_all, take-suc-set, take-add, drop-set-lt, set_at, take_at, drop_at, drop-cons}
use Rattle.encoder.specs.Encode.{filled}
use Rattle.line.specs.declared.Span.{Span}
use Rattle.line.specs.Line.{line_room, Lies}

-- bytes stored from the front fill it
pub sets_filled : (s c : List ℕ) → length c ≤ length s → sets s 0 c ≡ filled c s
sets_filled s c h = sets-eq c s 0 (rw zero-add h) ∙ ap (λ (k : ℕ). c ++ drop k s) (zero-add (length c))

-- a line lies where an equal one does
pub lies_in : {l l' : List ℕ} {s : Span} {buf buf' : List ℕ} → l ≡ l' → buf ≡ buf' → Lies l' s buf' → Lies l s buf
lies_in {l} {l'} {s} {buf} {buf'} e f x = subst (λ (k : List ℕ). Lies k s buf) (sym e) (subst (λ (b : List ℕ). Lies l' s b) (sym f) x)

-- a byte at p, and the rest behind it lent on: what is lent, and what comes back
module _ (s : List ℕ) (p v : ℕ) (h : p + 1 ≤ length s) where
  pub rest_lent : mid_of (p + 1) (length (set s p v) - (p + 1)) (set s p v) ≡ drop (p + 1) s
  rest_lent =
      take_all (length (set s p v) - (p + 1)) (drop (p + 1) (set s p v)) (simp length-drop (omega arith)) ∙ drop-set-lt (p + 1) s p v (omega arith)

  pub rest_back : (last : List ℕ) → put_mid (p + 1) (length (set s p v) - (p + 1)) (set s p v) last ≡ take p s ++ v ∷ last
  rest_back last =
      let none : drop (length (set s p v) - (p + 1)) (drop (p + 1) (set s p v)) ≡ [] =
      drop_of_length-le (drop (p + 1) (set s p v)) {i = length (set s p v) - (p + 1)} (simp (length-drop, length-set) (omega arith))
      in
      let front : take (p + 1) (set s p v) ≡ take p s ++ v ∷ [] = rw (add-one p) (take-suc-set s p v (omega arith)) in
      ap (λ (l : List ℕ). take (p + 1) (set s p v) ++ (last ++ l)) none
      ∙ ap (λ (l : List ℕ). take (p + 1) (set s p v) ++ l) (append-nil last)
      ∙ ap (λ (l : List ℕ). l ++ last) front
      ∙ append_assoc (take p s) (v ∷ []) last

-- a code P put before the tab, over as many bytes, and byte 10 behind the code A
laid : (G O P A R : List ℕ) (r g e : ℕ) → length G ≡ g → length O ≡ length P → e ≡ g + length P + 1 + length A
    → take (e + 1 - g) (drop g (set (sets ((G ++ O) ++ 9 ∷ (A ++ r ∷ R)) g P) e 10)) ≡ P ++ 9 ∷ (A ++ 10 ∷ [])
laid G O P A R r g e lg lo le =
    let X : List ℕ = (G ++ O) ++ 9 ∷ (A ++ r ∷ R) in
    let room : g + length P ≤ length X = omega (arith, length-append (G ++ O) (9 ∷ (A ++ r ∷ R)), length-append G O) in
    let front : take g X ≡ G = ap (λ (l : List ℕ). take g l) (append_assoc G O (9 ∷ (A ++ r ∷ R))) ∙ take_at G (O ++ 9 ∷ (A ++ r ∷ R)) g lg in
    let back : drop (g + length P) X ≡ 9 ∷ (A ++ r ∷ R) = drop_at (G ++ O) (9 ∷ (A ++ r ∷ R)) (g + length P) (omega (arith, length-append G O)) in
    let coded : sets X g P ≡ ((G ++ P) ++ 9 ∷ A) ++ r ∷ R =
    sets-eq P X g room ∙ ap (λ (l : List ℕ). (l ++ P) ++ drop (g + length P) X) front ∙ ap (λ (l : List ℕ). (G ++ P) ++ l) back ∙ sym (append_assoc (G ++ P) (9 ∷ A) (r ∷ R))
    in
    let long : length ((G ++ P) ++ 9 ∷ A) ≡ e = omega (arith, length-append (G ++ P) (9 ∷ A), length-append G P) in
    let closed : set (sets X g P) e 10 ≡ G ++ ((P ++ 9 ∷ (A ++ 10 ∷ [])) ++ R) =
    ap (λ (l : List ℕ). set l e 10) coded ∙ set_at ((G ++ P) ++ 9 ∷ A) r R 10 e long ∙ simp append_assoc
    in
    let n : length (P ++ 9 ∷ (A ++ 10 ∷ [])) ≡ e + 1 - g = omega (arith, length-append P (9 ∷ (A ++ 10 ∷ [])), length-append A (10 ∷ [])) in
    ap (λ (l : List ℕ). take (e + 1 - g) (drop g l)) closed
    ∙ ap (λ (l : List ℕ). take (e + 1 - g) l) (drop_at G ((P ++ 9 ∷ (A ++ 10 ∷ [])) ++ R) g lg)
    ∙ take_at (P ++ 9 ∷ (A ++ 10 ∷ [])) R (e + 1 - g) n

-- the line of two codes, in a buffer whose tab stands at 4 and is followed by the alternate code
pub built : (line P A mid : List ℕ) (p a : ℕ) → length line ≡ line_room → length mid ≡ line_room → p ≡ length P → a ≡ length A → p ≤ 4 → a ≤ 4
    → mid ≡ take 4 line ++ 9 ∷ filled A (drop 5 line)
    → Lies (P ++ 9 ∷ (A ++ 10 ∷ [])) (record { start = 4 - p; end = 5 + a + 1 }) (set (sets mid (4 - p) P) (5 + a) 10)
built line P A mid p a n m ep ea hp ha em =
    let B : List ℕ = drop 5 line in
    let G : List ℕ = take (4 - p) line in
    let O : List ℕ = take p (drop (4 - p) line) in
    let four : 4 ≡ 4 - p + p = omega arith in
    let front : take 4 line ≡ G ++ O = ap (λ (k : ℕ). take k line) four ∙ take-add (4 - p) p line in
    let behind : drop (length A) B ≡ get_or B (length A) 0 ∷ drop (suc (length A)) B = drop-cons B (length A) 0 (omega (arith, length-drop 5 line)) in
    let e : mid ≡ (G ++ O) ++ 9 ∷ (A ++ get_or B (length A) 0 ∷ drop (suc (length A)) B) =
    em ∙ ap (λ (l : List ℕ). l ++ 9 ∷ filled A B) front ∙ ap (λ (l : List ℕ). (G ++ O) ++ 9 ∷ (A ++ l)) behind
    in
    record {
      ordered = omega arith;
      within = simp (length-set, length-sets) (omega arith);
      bytes = rw e (laid G O P A (drop (suc (length A)) B) (get_or B (length A) 0) (4 - p) (5 + a)
          (simp length-take (omega arith)) (simp (length-take, length-drop) (omega arith)) (omega arith));
    }

-- three bytes at the front
pub three : (line : List ℕ) (x y z : ℕ) → length line ≡ line_room
    → Lies (x ∷ y ∷ z ∷ []) (record { start = 0; end = 3 }) (set (set (set line 0 x) 1 y) 2 z)
three line x y z n =
    record {
      ordered = omega arith;
      within = simp length-set (omega arith);
      bytes = ap (λ (l : List ℕ). take 3 l) (sets_filled line (x ∷ y ∷ z ∷ []) (omega arith)) ∙ take_at (x ∷ y ∷ z ∷ []) (drop 3 line) 3 refl;
    }
