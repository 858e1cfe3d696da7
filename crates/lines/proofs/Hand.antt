-- What is held of a line, byte by byte.
use Prim.Native.Nat.{ℕ, suc, ◌+◌, ◌≤◌, ◌<◌}
use mathlib.Core.Path.{◌≡◌, refl, sym, ap, subst, ◌∙◌}
use mathlib.Core.List.{List, [], ◌∷◌, ◌++◌}
use mathlib.Core.Bool.{Bool, true, false}
use native.Mathlib.Numerals.{add-one}
use native.Mathlib.Omega.{arith}
use borrow.Author.Tests.{ltb-true, ltb-false, lt-ltb, le-ltb}
use lib.Dec.{eqb, ltb}
use lib.ListN.{length, take, get_or, set, replicate, length-append, length-set, length-take, length-replicate}
use lib.Seq.{take-suc, take-suc-set}
use Rattle.terms.specs.Limits.{word_limit}
use Rattle.lines.specs.Lines.{begun, last}
use Rattle.lines.specs.Feed.{Hand, hand, Holds, keep, next, after}
use Rattle.lines.proofs.Split.{begun_append}

-- some line is held, whatever the count
some_line : (n : ℕ) → List ℕ
some_line n = replicate n 0

pub some_held : (h : Hand) → (p : List ℕ) × Holds p h
unfolding some_line
some_held h = go (ltb word_limit h.count) refl
  where
    go : (t : Bool) → ltb word_limit h.count ≡ t → (p : List ℕ) × Holds p h
    go true t = (
      some_line h.count,
      record {
        bytes = λ l. absurd (omega (arith, ltb-true word_limit h.count t));
        over = λ l. omega (arith, length-replicate {A = ℕ} h.count 0);
      },
    )
    go false t = (take h.count h.bytes, record { bytes = λ l. refl; over = λ l. absurd (omega (arith, ltb-false word_limit h.count t)) })

-- `keep` on either side of the limit
pub keep_short : (b n : ℕ) (buf : List ℕ) → n < word_limit → hand (n + 1) (set buf n b) ≡ keep b (hand n buf)
keep_short b n buf h = rw (lt-ltb n word_limit h, add-one n)

pub keep_long : (b n : ℕ) (buf : List ℕ) → word_limit ≤ n → hand (suc word_limit) buf ≡ keep b (hand n buf)
keep_long b n buf h = rw (le-ltb n word_limit h)

-- one byte more
module _ (p : List ℕ) (b : ℕ) (h : Hand) (room : word_limit ≤ length h.bytes) (x : Holds p h) where
  held_short : h.count < word_limit → Holds (p ++ b ∷ []) (hand (suc h.count) (set h.bytes h.count b))
  held_short l =
      record {
        bytes = λ _. ap (λ (q : List ℕ). q ++ b ∷ []) (x.bytes (omega arith)) ∙ sym (take-suc-set h.bytes h.count b (omega arith));
        over = λ k. absurd (omega arith);
      }

  at_limit : (t : Bool) → ltb word_limit h.count ≡ t → word_limit ≤ h.count → word_limit ≤ length p
  at_limit true t l = omega (arith, x.over (ltb-true word_limit h.count t))
  at_limit false t l =
      let q : p ≡ take h.count h.bytes = x.bytes (ltb-false word_limit h.count t) in
      rw q (simp length-take (omega arith))

  held_long : word_limit ≤ h.count → (buf : List ℕ) → Holds (p ++ b ∷ []) (hand (suc word_limit) buf)
  held_long l buf =
      record {
        bytes = λ k. absurd (omega arith);
        over = λ k. omega (arith, at_limit (ltb word_limit h.count) refl l, length-append p (b ∷ []));
      }

  holds_keep : Holds (p ++ b ∷ []) (keep b h)
  holds_keep = go (ltb h.count word_limit) refl
    where
      go : (t : Bool) → ltb h.count word_limit ≡ t → Holds (p ++ b ∷ []) (keep b h)
      go true t = rw t (held_short (ltb-true h.count word_limit t))
      go false t = rw t (held_long (ltb-false h.count word_limit t) h.bytes)

  pub holds_next : Holds (begun p (b ∷ [])) (next b h)
  unfolding begun
  holds_next = go (eqb b 10) refl
    where
      go : (t : Bool) → eqb b 10 ≡ t → Holds (begun p (b ∷ [])) (next b h)
      go true t = rw t (record { bytes = λ _. refl; over = λ k. absurd (omega arith) })
      go false t = rw t holds_keep

-- all bytes of a block
next_long : (b : ℕ) (h : Hand) → length (next b h).bytes ≡ length h.bytes
next_long b h = go (eqb b 10) (ltb h.count word_limit) refl refl
  where
    go : (s t : Bool) → eqb b 10 ≡ s → ltb h.count word_limit ≡ t → length (next b h).bytes ≡ length h.bytes
    go true t e f = rw e
    go false true e f = rw (e, f) (length-set h.bytes h.count b)
    go false false e f = rw (e, f)

pub after_append : (a b : List ℕ) (h : Hand) → after (a ++ b) h ≡ after b (after a h)
unfolding after
after_append [] b h = refl
after_append (x ∷ a) b h = after_append a b (next x h)

pub after_long : (l : List ℕ) (h : Hand) → length (after l h).bytes ≡ length h.bytes
unfolding after
after_long [] h = refl
after_long (b ∷ l) h = after_long l (next b h) ∙ next_long b h

pub holds_after : (l p : List ℕ) (h : Hand) → word_limit ≤ length h.bytes → Holds p h → Holds (begun p l) (after l h)
unfolding after begun
holds_after [] p h room x = x
holds_after (b ∷ l) p h room x =
    rw (begun_append p (b ∷ []) l) (holds_after l (begun p (b ∷ [])) (next b h) (rw (next_long b h) room) (holds_next p b h room x))

-- the hand g behind the bytes l, which may be known in another way
pub holds_at : (p l : List ℕ) (h g : Hand) → g ≡ after l h → word_limit ≤ length g.bytes → Holds p h → Holds (begun p l) g
holds_at p l h g e room x =
    let long : length g.bytes ≡ length h.bytes = ap (λ (k : Hand). length k.bytes) e ∙ after_long l h in
    subst (λ (k : Hand). Holds (begun p l) k) (sym e) (holds_after l p h (omega arith) x)

-- one byte more of a block
pub after_one : (block : List ℕ) (used : ℕ) → used < length block → (h : Hand)
    → after (take (used + 1) block) h ≡ next (get_or block used 0) (after (take used block) h)
unfolding after
after_one block used inside h =
    ap (λ (l : List ℕ). after l h) (ap (λ (k : ℕ). take k block) (add-one used) ∙ take-suc block used 0 inside)
    ∙ after_append (take used block) (get_or block used 0 ∷ []) h

-- at the end: nothing held is no line, and anything else is one
pub none_held : (p : List ℕ) (h : Hand) → Holds p h → h.count ≡ 0 → p ≡ []
none_held p h x e = x.bytes (omega arith) ∙ ap (λ (n : ℕ). take n h.bytes) e

pub one_held : (p : List ℕ) (h : Hand) → word_limit ≤ length h.bytes → Holds p h → (h.count ≡ 0 → ⊥) → last p ≡ p ∷ []
one_held [] h room x n = absurd (go (ltb word_limit h.count) refl)
  where
    go : (t : Bool) → ltb word_limit h.count ≡ t → ⊥
    go true t = let k : word_limit < 0 = x.over (ltb-true word_limit h.count t) in omega arith
    go false t =
        let l : h.count ≤ word_limit = ltb-false word_limit h.count t in
        let k : 0 ≡ length (take h.count h.bytes) = ap length (x.bytes l) in
        n (omega (arith, length-take h.count h.bytes))
one_held (b ∷ p) h room x n = refl
