-- One turn of the walk's loop, in terms of the definitions.
use Prim.Native.Nat.{ℕ, zero, suc, ◌+◌, ◌-◌, ◌≤◌, ◌<◌, max}
use mathlib.Core.Path.{◌≡◌, refl, sym, ap, ◌∙◌, subst}
use mathlib.Core.List.{List, [], ◌∷◌, ◌++◌}
use mathlib.Core.Bool.{Bool, true, false, false≢true, ◌&&◌}
use native.Mathlib.Omega.{arith}
use native.Mathlib.Nat.{add-zero}
use borrow.Author.Tests.{leb-true, leb-false, eq-eqb, ne_eqb}
use lib.Dec.{leb}
use lib.ListN.{length, take, length-take}
use lib.Seq.{sets}
use Rattle.basics.proofs.Tests.{both}
use Rattle.terms.specs.declared.Edition.{Edition}
use Rattle.outcome.specs.declared.Visit.{Visit}
use Rattle.rules.specs.Kept.{bytes_of}
use Rattle.tally.specs.declared.Tally.{Tally}
use Rattle.tally.specs.Tally.{counted}
use Rattle.walk.specs.Walk.{places, to_primary, to_alternate, Coded, ended, after, limited, tally_of, filled}
use Rattle.walk.specs.Word.{rule_of, visits_of, limited_of}
use Rattle.word.specs.Start.{start_of}
use Rattle.walk.proofs.Half.{Half, half_start, half_room, half_step, half_length, half_end}

-- passing bytes over is starting behind them
skipped : (v : ℕ → Visit) (at skip left : ℕ) → places v at skip left ≡ places v (at + skip) 0 (left - skip)
skipped v at zero left = rw (add-zero at, native.Mathlib.Nat.sub-zero left)
skipped v at (suc k) zero = let e : zero - suc k ≡ 0 = omega arith in rw e
skipped v at (suc k) (suc left) =
    let e : suc left - suc k ≡ left - k = omega arith in
    let f : at + suc k ≡ suc at + k = omega arith in
    rw (e, f) (skipped v (suc at) k left)

-- before the end the walk visits the place it stands at, and goes on behind what that visit passes over
pub next_place : (v : ℕ → Visit) (at t : ℕ) → at < t → places v at 0 (t - at) ≡ at ∷ places v (at + 1 + (v at).over) 0 (t - (at + 1 + (v at).over))
next_place v at t h =
    let d : t - at ≡ suc (t - suc at) = omega arith in
    let n : suc at + (v at).over ≡ at + 1 + (v at).over = omega arith in
    let l : t - suc at - (v at).over ≡ t - (at + 1 + (v at).over) = omega arith in
    rw d (ap (λ (ps : List ℕ). at ∷ ps) (skipped v (suc at) (v at).over (t - suc at) ∙ rw (n, l)))

limited_visit : (g h : ℕ → List ℕ) (n m p : ℕ) (ps : List ℕ) → 0 < max n m → limited g h n m (p ∷ ps) ≡ after (take n (g p)) (take m (h p)) (limited g h (n - length (g p)) (m - length (h p)) ps)
limited_visit g h n m p ps more = rw (ne_eqb (max n m) 0 (λ e. omega arith))

limited_full : (g h : ℕ → List ℕ) (n m : ℕ) (ps : List ℕ) → max n m ≡ 0 → limited g h n m ps ≡ ended
limited_full g h n m [] e = refl
limited_full g h n m (p ∷ ps) e = rw (eq-eqb (max n m) 0 e)

-- what is still to come from place `at` on, where the codes have np and na bytes
abbrev pub rest : Edition → List ℕ → ℕ → ℕ → ℕ → ℕ → Coded
rest ed w limit at np na =
    limited (to_primary (rule_of ed w)) (to_alternate (rule_of ed w)) (limit - np) (limit - na) (places (rule_of ed w) at 0 (length w - at))

-- both codes written, with their lengths and the count of visits
abbrev pub Written : Coded → List ℕ → List ℕ → List ℕ → List ℕ → Tally → Type 0
Written c p₀ a₀ p a t = (t ≡ tally_of c) × ((p ≡ filled c.primary p₀) × (a ≡ filled c.alternate a₀))

-- the loop's invariant
pub record Going (ed : Edition) (w p₀ a₀ p a : List ℕ) (limit at : ℕ) (t : Tally) : Type 0 where
  pub primary : Half (limited_of ed limit w).primary (rest ed w limit at t.primary t.alternate).primary p₀ p limit t.primary
  pub alternate : Half (limited_of ed limit w).alternate (rest ed w limit at t.primary t.alternate).alternate a₀ a limit t.alternate
  pub visited : t.visits + (rest ed w limit at t.primary t.alternate).visits ≡ (limited_of ed limit w).visits
  pub low : t.visits ≤ at

pub going : (ed : Edition) (w p a : List ℕ) (limit : ℕ) → Going ed w p a p a limit (start_of w) (record { primary = 0; alternate = 0; visits = 0 })
unfolding visits_of
going ed w p a limit =
    let z : limit - 0 ≡ limit = omega arith in
    record {
      primary = rw z (half_start (limited_of ed limit w).primary p limit);
      alternate = rw z (half_start (limited_of ed limit w).alternate a limit);
      visited = rw z (native.Mathlib.Nat.zero-add (limited_of ed limit w).visits);
      low = omega arith;
    }

-- what a code may take after an addition
left_over : (limit len : ℕ) (xs : List ℕ) → limit - (len + length (take (limit - len) xs)) ≡ limit - len - length xs
left_over limit len xs = omega (arith, length-take (limit - len) xs)

-- the loop's test, as the definition has it
wants : (limit np na : ℕ) → (leb limit np && leb limit na) ≡ false → 0 < max (limit - np) (limit - na)
wants limit np na e = go (leb limit np) refl (leb limit na) refl
  where
    go : (x : Bool) → leb limit np ≡ x → (y : Bool) → leb limit na ≡ y → 0 < max (limit - np) (limit - na)
    go true i true j = absurd (let z : true ≡ false = rw (i, j) at e in false≢true (sym z))
    go true i false j = let l : na < limit = leb-false _ _ j in omega arith
    go false i y j = let l : np < limit = leb-false _ _ i in omega arith

wants_none : (limit np na : ℕ) → (leb limit np && leb limit na) ≡ true → max (limit - np) (limit - na) ≡ 0
wants_none limit np na e = let b = both (leb limit np) (leb limit na) e in omega (arith, leb-true limit np b.0, leb-true limit na b.1)

clipped : (limit len : ℕ) (xs : List ℕ) → len ≤ limit → len + length (take (limit - len) xs) ≤ limit
clipped limit len xs h = omega (arith, length-take (limit - len) xs)

one_more : (a b c n : ℕ) → a + b ≡ n → b ≡ suc c → a + 1 + c ≡ n
one_more a b c n e f = omega arith

-- a turn that visits place `at`, where v is what the rule says there
module _ {ed : Edition} {w p₀ a₀ p a : List ℕ} {limit at : ℕ} {t : Tally} (s : Going ed w p₀ a₀ p a limit at t) (v : Visit) (e : v ≡ rule_of ed w at) (inside : at < length w) (wanted : (leb limit t.primary && leb limit t.alternate) ≡ false) where
  x : List ℕ
  x = take (limit - t.primary) (bytes_of v.primary)

  y : List ℕ
  y = take (limit - t.alternate) (bytes_of v.alternate)

  -- what is still to come behind it
  to_come_lem : Coded
  unfolding x y
  to_come_lem = rest ed w limit (at + 1 + v.over) (t.primary + length x) (t.alternate + length y)

  onward : rest ed w limit at t.primary t.alternate ≡ after x y to_come_lem
  unfolding x y to_come_lem
  onward =
      let n : ℕ = at + 1 + (rule_of ed w at).over in
      ap (λ (ps : List ℕ). limited (to_primary (rule_of ed w)) (to_alternate (rule_of ed w)) (limit - t.primary) (limit - t.alternate) ps) (next_place (rule_of ed w) at (length w) inside)
      ∙ limited_visit (to_primary (rule_of ed w)) (to_alternate (rule_of ed w)) (limit - t.primary) (limit - t.alternate) at (places (rule_of ed w) n 0 (length w - n)) (wants limit t.primary t.alternate wanted)
      ∙ rw (left_over limit t.primary (bytes_of v.primary), left_over limit t.alternate (bytes_of v.alternate), e)

  half_p : Half (limited_of ed limit w).primary (x ++ to_come_lem.primary) p₀ p limit t.primary
  half_p = subst (λ (c : Coded). Half (limited_of ed limit w).primary c.primary p₀ p limit t.primary) onward s.primary

  half_a : Half (limited_of ed limit w).alternate (y ++ to_come_lem.alternate) a₀ a limit t.alternate
  half_a = subst (λ (c : Coded). Half (limited_of ed limit w).alternate c.alternate a₀ a limit t.alternate) onward s.alternate

  -- there is room for what is added
  pub room_p : length (limited_of ed limit w).primary ≤ length p₀ → t.primary + length (take (limit - t.primary) (bytes_of v.primary)) ≤ length p
  unfolding x
  room_p room = half_room x to_come_lem.primary half_p room

  pub room_a : length (limited_of ed limit w).alternate ≤ length a₀ → t.alternate + length (take (limit - t.alternate) (bytes_of v.alternate)) ≤ length a
  unfolding y
  room_a room = half_room y to_come_lem.alternate half_a room

  -- the turn: both additions are written, the visit is counted, and the walk stands behind what the visit passes over
  pub turned : (t' : Tally) (p' a' : List ℕ) → t' ≡ counted t limit v
      → p' ≡ sets p t.primary (take (limit - t.primary) (bytes_of v.primary)) → a' ≡ sets a t.alternate (take (limit - t.alternate) (bytes_of v.alternate))
      → length (limited_of ed limit w).primary ≤ length p₀ → length (limited_of ed limit w).alternate ≤ length a₀
      → Going ed w p₀ a₀ p' a' limit (at + 1 + v.over) t'
  unfolding x y to_come_lem
  turned t' p' a' et ep ea rp ra =
      let g : Going ed w p₀ a₀ (sets p t.primary x) (sets a t.alternate y) limit (at + 1 + v.over) (counted t limit v) =
      record {
        primary = half_step x to_come_lem.primary half_p (room_p rp) (clipped limit t.primary (bytes_of v.primary) s.primary.under);
        alternate = half_step y to_come_lem.alternate half_a (room_a ra) (clipped limit t.alternate (bytes_of v.alternate) s.alternate.under);
        visited = one_more t.visits (rest ed w limit at t.primary t.alternate).visits to_come_lem.visits (limited_of ed limit w).visits s.visited (ap (λ (c : Coded). c.visits) onward);
        low = omega (arith, s.low);
      }
      in rw (et, ep, ea) g

-- the loop's end
module _ {ed : Edition} {w p₀ a₀ p a : List ℕ} {limit at : ℕ} {t : Tally} (s : Going ed w p₀ a₀ p a limit at t) where
  finished : rest ed w limit at t.primary t.alternate ≡ ended → Written (limited_of ed limit w) p₀ a₀ p a t
  finished e =
      let hp : Half (limited_of ed limit w).primary [] p₀ p limit t.primary = subst (λ (c : Coded). Half (limited_of ed limit w).primary c.primary p₀ p limit t.primary) e s.primary in
      let ha : Half (limited_of ed limit w).alternate [] a₀ a limit t.alternate = subst (λ (c : Coded). Half (limited_of ed limit w).alternate c.alternate a₀ a limit t.alternate) e s.alternate in
      let z : t.visits ≡ (limited_of ed limit w).visits = sym (add-zero t.visits) ∙ subst (λ (c : Coded). t.visits + c.visits ≡ (limited_of ed limit w).visits) e s.visited in
      (λ i. record { primary = half_length hp i; alternate = half_length ha i; visits = z i }, (half_end hp, half_end ha))

  -- past the word's end
  pub at_end : length w ≤ at → Written (limited_of ed limit w) p₀ a₀ p a t
  at_end h = let z : length w - at ≡ 0 = omega arith in finished (rw z)

  -- both codes have what the limit allows
  pub at_limit : (leb limit t.primary && leb limit t.alternate) ≡ true → Written (limited_of ed limit w) p₀ a₀ p a t
  at_limit h = finished (limited_full (to_primary (rule_of ed w)) (to_alternate (rule_of ed w)) (limit - t.primary) (limit - t.alternate) (places (rule_of ed w) at 0 (length w - at)) (wants_none limit t.primary t.alternate h))
