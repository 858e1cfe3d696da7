-- Demand 3 for any rule and any list of places: under a limit a code is the first n bytes of its unlimited code, and the
-- visits are the fewest after which both have n bytes, or all.
use Prim.Native.Nat.{ℕ, zero, suc, ◌+◌, ◌-◌, ◌≤◌, ◌<◌, max}
use mathlib.Core.Path.{◌≡◌, refl, sym, ap, ◌∙◌}
use mathlib.Core.List.{List, [], ◌∷◌, ◌++◌}
use mathlib.Core.Bool.{Bool, true, false, cond}
use native.Mathlib.Omega.{arith}
use native.Mathlib.Nat.{sub-zero}
use borrow.Author.Tests.{eqb-true, eqb-false, ne_eqb, ltb-true, ltb-false}
use lib.Dec.{eqb, ltb}
use lib.ListN.{length, take, length-append}
use lib.Seq.{take-nil}
use Rattle.walk.specs.Walk.{joined, Coded, ended, after, limited}
use Rattle.walk_laws.specs.Fewest.{Fewest}

take_append : (n : ℕ) (xs ys : List ℕ) → take n (xs ++ ys) ≡ take n xs ++ take (n - length xs) ys
take_append zero xs ys = let e : zero - length xs ≡ 0 = omega arith in rw e
take_append (suc n) [] ys = rw (sub-zero (suc n))
take_append (suc n) (x ∷ xs) ys =
    let e : suc n - suc (length xs) ≡ n - length xs = omega arith in
    rw e (ap (λ (l : List ℕ). x ∷ l) (take_append n xs ys))

-- the codes
pub record Cut (c : Coded) (n m : ℕ) (xs ys : List ℕ) : Type 0 where
  pub primary : c.primary ≡ take n xs
  pub alternate : c.alternate ≡ take m ys

none_of : (n : ℕ) (xs : List ℕ) → n ≡ 0 → take n xs ≡ []
none_of n xs e = rw e

pub cut : (g h : ℕ → List ℕ) (n m : ℕ) (ps : List ℕ) → Cut (limited g h n m ps) n m (joined g ps) (joined h ps)
cut g h n m [] = record { primary = sym (take-nil n); alternate = sym (take-nil m) }
cut g h n m (p ∷ ps) = go (eqb (max n m) 0) refl (cut g h (n - length (g p)) (m - length (h p)) ps)
  where
    more : Coded
    more = limited g h (n - length (g p)) (m - length (h p)) ps

    go : (q : Bool) → eqb (max n m) 0 ≡ q → Cut more (n - length (g p)) (m - length (h p)) (joined g ps) (joined h ps)
        → Cut (cond q ended (after (take n (g p)) (take m (h p)) more)) n m (g p ++ joined g ps) (h p ++ joined h ps)
    go true t c =
        let z : max n m ≡ 0 = eqb-true _ _ t in
        record { primary = sym (none_of n (g p ++ joined g ps) (omega arith)); alternate = sym (none_of m (h p ++ joined h ps) (omega arith)) }
    go false t c =
        record {
          primary = ap (λ (l : List ℕ). take n (g p) ++ l) c.primary ∙ sym (take_append n (g p) (joined g ps));
          alternate = ap (λ (l : List ℕ). take m (h p) ++ l) c.alternate ∙ sym (take_append m (h p) (joined h ps));
        }

-- the visits, where the codes want n and m bytes
record Reached (g h : ℕ → List ℕ) (ps : List ℕ) (n m k : ℕ) : Type 0 where
  primary : n ≤ length (joined g (take k ps))
  alternate : m ≤ length (joined h (take k ps))

record Few (g h : ℕ → List ℕ) (ps : List ℕ) (n m k : ℕ) : Type 0 where
  within : k ≤ length ps
  none_fewer : (j : ℕ) → j < k → Reached g h ps n m j → ⊥
  full_or_all : k < length ps → Reached g h ps n m k

reached_more : (g h : ℕ → List ℕ) (p : ℕ) (ps : List ℕ) (n m k : ℕ) → Reached g h ps (n - length (g p)) (m - length (h p)) k → Reached g h (p ∷ ps) n m (suc k)
reached_more g h p ps n m k r =
    record {
      primary = omega (arith, r.primary, length-append (g p) (joined g (take k ps)));
      alternate = omega (arith, r.alternate, length-append (h p) (joined h (take k ps)));
    }

reached_less : (g h : ℕ → List ℕ) (p : ℕ) (ps : List ℕ) (n m k : ℕ) → Reached g h (p ∷ ps) n m (suc k) → Reached g h ps (n - length (g p)) (m - length (h p)) k
reached_less g h p ps n m k r =
    record {
      primary = omega (arith, r.primary, length-append (g p) (joined g (take k ps)));
      alternate = omega (arith, r.alternate, length-append (h p) (joined h (take k ps)));
    }

few : (g h : ℕ → List ℕ) (n m : ℕ) (ps : List ℕ) → Few g h ps n m (limited g h n m ps).visits
few g h n m [] = record { within = omega arith; none_fewer = λ j l r. omega arith; full_or_all = λ l. absurd (omega arith) }
few g h n m (p ∷ ps) = go (eqb (max n m) 0) refl (few g h (n - length (g p)) (m - length (h p)) ps)
  where
    more : Coded
    more = limited g h (n - length (g p)) (m - length (h p)) ps

    first : (j k : ℕ) → (max n m ≡ 0 → ⊥) → Few g h ps (n - length (g p)) (m - length (h p)) k → j < suc k → Reached g h (p ∷ ps) n m j → ⊥
    first zero k z f l r = z (omega (arith, r.primary, r.alternate))
    first (suc j) k z f l r = f.none_fewer j (omega arith) (reached_less g h p ps n m j r)

    go : (q : Bool) → eqb (max n m) 0 ≡ q → Few g h ps (n - length (g p)) (m - length (h p)) more.visits
        → Few g h (p ∷ ps) n m (cond q ended (after (take n (g p)) (take m (h p)) more)).visits
    go true t f =
        let z : max n m ≡ 0 = eqb-true _ _ t in
        record { within = omega arith; none_fewer = λ j l r. omega arith; full_or_all = λ l. record { primary = omega arith; alternate = omega arith } }
    go false t f =
        record {
          within = omega (arith, f.within);
          none_fewer = λ j l r. first j more.visits (eqb-false _ _ t) f l r;
          full_or_all = λ l. reached_more g h p ps n m more.visits (f.full_or_all (omega arith));
        }

pub fewest : (g h : ℕ → List ℕ) (n : ℕ) (ps : List ℕ) → Fewest g h ps n (limited g h n n ps).visits
fewest g h n ps =
    let f = few g h n n ps in
    record {
      within = f.within;
      none_fewer = λ j l r. f.none_fewer j l (record { primary = r.primary; alternate = r.alternate });
      full_or_all = λ l. record { primary = (f.full_or_all l).primary; alternate = (f.full_or_all l).alternate };
    }

-- there is one such number
pub fewest_one : (g h : ℕ → List ℕ) (ps : List ℕ) (n j k : ℕ) → Fewest g h ps n j → Fewest g h ps n k → j ≡ k
fewest_one g h ps n j k a b = go (ltb j k) refl (ltb k j) refl
  where
    go : (q : Bool) → ltb j k ≡ q → (r : Bool) → ltb k j ≡ r → j ≡ k
    go true t r u = let l : j < k = ltb-true _ _ t in absurd (b.none_fewer j l (a.full_or_all (omega (arith, b.within))))
    go false t true u = let l : k < j = ltb-true _ _ u in absurd (a.none_fewer k l (b.full_or_all (omega (arith, a.within))))
    go false t false u = omega (arith, ltb-false j k t, ltb-false k j u)

-- a limit that the primary code never reaches is none
pub no_limit : (g h : ℕ → List ℕ) (n m : ℕ) (ps : List ℕ) → length (joined g ps) < n → (limited g h n m ps).visits ≡ length ps
no_limit g h n m [] l = refl
no_limit g h n m (p ∷ ps) l =
    let e : length (g p ++ joined g ps) ≡ length (g p) + length (joined g ps) = length-append (g p) (joined g ps) in
    rw (ne_eqb (max n m) 0 (λ z. omega arith)) (ap suc (no_limit g h (n - length (g p)) (m - length (h p)) ps (omega arith)))
