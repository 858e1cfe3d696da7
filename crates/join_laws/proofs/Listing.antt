-- A join lists all pairs and no others: (s, t) is listed exactly when some live record of the first book with the station s and some live
-- record of the second with the station t have codes that agree under the smaller limit.
use Prim.Native.Nat.{ℕ}
use mathlib.Core.Path.{◌≡◌, refl, sym, ap, ◌∙◌}
use mathlib.Core.Logic.{◌⊎◌, inl, inr, ⊎_elim, ◌↔◌}
use mathlib.Core.Bool.{Bool, true, false, cond}
use mathlib.Core.List.Memᴰ
use mathlib.Core.List.{List, [], ◌∷◌}
use native.Mathlib.Omega.{arith}
use borrow.Author.Tests.{eqb-true, eqb-false}
use Rattle.basics.specs.Same.{same}
use Rattle.basics.proofs.Same.{same_true, same_refl}
use Rattle.terms.specs.Limits.{Limit}
use Rattle.chosen.specs.declared.Choice.{Choice}
use Rattle.entry.specs.Entry.{Record, Entry, is_live}
use Rattle.book.specs.Book.{Book, live}
use Rattle.matching.specs.Cut.{clip}
use Rattle.matching.specs.Pairs.{meets, beside, pairs}
use Rattle.two_books.specs.Sides.{bodies, standing, chosen_code, coded_all, join_of, limits_of}
use Rattle.join_laws.specs.Order.{In, Agree}

-- a record among a book's, by its station and its key: the chosen code under m
record Keyed (c : Choice) (m : Limit) (rs : List Record) (s : ℕ) (k : List ℕ) : Type 0 where
  r : Record
  among : In r rs
  station : s ≡ r.station
  key : k ≡ clip m (chosen_code c r)

-- ---- a station beside others
beside_out : (a : ℕ) (ts : List ℕ) (s t : ℕ) → In (s, t) (beside a ts) → (s ≡ a) × In t ts
unfolding beside
beside_out a [] s t d = absurd (Memᴰ.not-nil d)
beside_out a (b ∷ ts) s t d =
    ⊎_elim (λ (e : (s, t) ≡ (a, b)). (ap (λ (p : ℕ × ℕ). p.0) e, Memᴰ.head (ap (λ (p : ℕ × ℕ). p.1) e)))
    (λ (z : In (s, t) (beside a ts)). let w = beside_out a ts s t z in (w.0, Memᴰ.tail w.1)) (Memᴰ.cases_cons d)

beside_in : (a : ℕ) (ts : List ℕ) (t : ℕ) → In t ts → In (a, t) (beside a ts)
unfolding beside
beside_in a [] t d = absurd (Memᴰ.not-nil d)
beside_in a (b ∷ ts) t d =
    ⊎_elim (λ (e : t ≡ b). Memᴰ.head (ap (λ (k : ℕ). (a, k)) e)) (λ (z : In t ts). Memᴰ.tail (beside_in a ts t z)) (Memᴰ.cases_cons d)

module _ (c : Choice) (m : Limit) where
  abbrev key_of : Record → List ℕ
  key_of r = clip m (chosen_code c r)

  later : (r : Record) {rs : List Record} {s : ℕ} {k : List ℕ} → Keyed c m rs s k → Keyed c m (r ∷ rs) s k
  later r z = record { r = z.r; among = Memᴰ.tail z.among; station = z.station; key = z.key }

  -- ---- the second book's stations under a key are those of its records that have the key
  met : (k : List ℕ) (rs : List Record) (t : ℕ) → In t (meets m k (coded_all c rs)) → Keyed c m rs t k
  unfolding meets coded_all
  met k [] t d = absurd (Memᴰ.not-nil d)
  met k (r ∷ rs) t d = go (same k (key_of r)) refl (met k rs t) d
    where
      go : (b : Bool) → same k (key_of r) ≡ b → (In t (meets m k (coded_all c rs)) → Keyed c m rs t k)
          → In t (cond b (r.station ∷ meets m k (coded_all c rs)) (meets m k (coded_all c rs))) → Keyed c m (r ∷ rs) t k
      go true e ih d =
          ⊎_elim (λ (p : t ≡ r.station). record { r = r; among = Memᴰ.head refl; station = p; key = same_true k (key_of r) e })
          (λ (z : In t (meets m k (coded_all c rs))). later r (ih z)) (Memᴰ.cases_cons d)
      go false e ih d = later r (ih d)

  meet : (k : List ℕ) (rs : List Record) (r : Record) → k ≡ key_of r → In r rs → In r.station (meets m k (coded_all c rs))
  unfolding meets coded_all
  meet k [] r e d = absurd (Memᴰ.not-nil d)
  meet k (q ∷ rs) r e d = go (same k (key_of q)) refl (meet k rs r e) (Memᴰ.cases_cons d)
    where
      yes : r ≡ q → same k (key_of q) ≡ true
      yes p = ap (same k) (ap key_of (sym p) ∙ sym e) ∙ same_refl k

      go : (b : Bool) → same k (key_of q) ≡ b → (In r rs → In r.station (meets m k (coded_all c rs))) → (r ≡ q) ⊎ In r rs
          → In r.station (cond b (q.station ∷ meets m k (coded_all c rs)) (meets m k (coded_all c rs)))
      go true f ih (inl p) = Memᴰ.head (ap (λ (r : Record). r.station) p)
      go true f ih (inr z) = Memᴰ.tail (ih z)
      go false f ih (inl p) = let z : ◌≡◌ {A = ℕ} 0 1 = cc (f, yes p) in absurd (omega arith)
      go false f ih (inr z) = ih z

  -- ---- a pair is of two records with one key
  found : (xs ys : List Record) (s t : ℕ) → In (s, t) (pairs m (coded_all c xs) (coded_all c ys)) → (k : List ℕ) × Keyed c m xs s k × Keyed c m ys t k
  unfolding pairs coded_all
  found [] ys s t d = absurd (Memᴰ.not-nil d)
  found (r ∷ xs) ys s t d =
      let row : List ℕ = meets m (key_of r) (coded_all c ys) in
      ⊎_elim
      (λ (z : In (s, t) (beside r.station row)).
      let w = beside_out r.station row s t z in
      (key_of r, record { r = r; among = Memᴰ.head refl; station = w.0; key = refl }, met (key_of r) ys t w.1))
      (λ (z : In (s, t) (pairs m (coded_all c xs) (coded_all c ys))). let w = found xs ys s t z in (w.0, later r w.1, w.2))
      (Memᴰ.append_cases (beside r.station row) d)

  shown : (xs ys : List Record) (p q : Record) → key_of p ≡ key_of q → In q ys → In p xs → In (p.station, q.station) (pairs m (coded_all c xs) (coded_all c ys))
  unfolding pairs coded_all
  shown [] ys p q e b d = absurd (Memᴰ.not-nil d)
  shown (r ∷ xs) ys p q e b d =
      let row : List ℕ = meets m (key_of r) (coded_all c ys) in
      ⊎_elim
      (λ (f : p ≡ r).
      let z : In q.station row = meet (key_of r) ys q (ap key_of (sym f) ∙ e) b in
      let w : In (p.station, q.station) (beside r.station row) = rw f (beside_in r.station row q.station z) in
      Memᴰ.append_left (pairs m (coded_all c xs) (coded_all c ys)) w)
      (λ (z : In p xs). Memᴰ.append_right (beside r.station row) (shown xs ys p q e b z))
      (Memᴰ.cases_cons d)

-- ---- a record among those of the live ones is a live one's
record Live (es : List Entry) (r : Record) : Type 0 where
  e : Entry
  among : In e es
  kind : e.kind ≡ 1
  body : r ≡ e.body

live_one : (es : List Entry) (r : Record) → In r (standing es) → Live es r
live_one [] r d = absurd (Memᴰ.not-nil d)
live_one (e ∷ es) r d = go (is_live e) refl (live_one es r) d
  where
    later_one : Live es r → Live (e ∷ es) r
    later_one z = record { e = z.e; among = Memᴰ.tail z.among; kind = z.kind; body = z.body }

    go : (t : Bool) → is_live e ≡ t → (In r (standing es) → Live es r) → In r (bodies (cond t (e ∷ live es) (live es))) → Live (e ∷ es) r
    go true f ih d =
        ⊎_elim (λ (p : r ≡ e.body). record { e = e; among = Memᴰ.head refl; kind = eqb-true e.kind 1 f; body = p }) (λ (z : In r (standing es)). later_one (ih z)) (Memᴰ.cases_cons d)
    go false f ih d = later_one (ih d)

stands : (es : List Entry) (e : Entry) → e.kind ≡ 1 → In e es → In e.body (standing es)
stands [] e k d = absurd (Memᴰ.not-nil d)
stands (q ∷ es) e k d = go (is_live q) refl (stands es e k) (Memᴰ.cases_cons d)
  where
    go : (t : Bool) → is_live q ≡ t → (In e es → In e.body (standing es)) → (e ≡ q) ⊎ In e es → In e.body (bodies (cond t (q ∷ live es) (live es)))
    go true f ih (inl p) = Memᴰ.head (ap (λ (x : Entry). x.body) p)
    go true f ih (inr z) = Memᴰ.tail (ih z)
    go false f ih (inl p) = absurd (eqb-false q.kind 1 f (sym (ap (λ (x : Entry). x.kind) p) ∙ k))
    go false f ih (inr z) = ih z

-- "all pairs of station numbers whose chosen code agrees on its first m bytes"
pub join_all_pairs : (c : Choice) (x y : Book) (s t : ℕ) → In (s, t) (join_of c x y) ↔ Agree c x y s t
join_all_pairs c x y s t = (listed, agreed)
  where
    listed : In (s, t) (join_of c x y) → Agree c x y s t
    listed d =
        let w = found c (limits_of x y) (standing x.records) (standing y.records) s t d in
        let u = live_one x.records w.1.r w.1.among in
        let v = live_one y.records w.2.r w.2.among in
        record {
          first = u.e;
          second = v.e;
          in_first = u.among;
          in_second = v.among;
          live_first = u.kind;
          live_second = v.kind;
          left = w.1.station ∙ ap (λ (r : Record). r.station) u.body;
          right = w.2.station ∙ ap (λ (r : Record). r.station) v.body;
          codes =
              sym (ap (λ (r : Record). clip (limits_of x y) (chosen_code c r)) u.body) ∙ sym w.1.key ∙ w.2.key
              ∙ ap (λ (r : Record). clip (limits_of x y) (chosen_code c r)) v.body;
        }

    agreed : Agree c x y s t → In (s, t) (join_of c x y)
    agreed a =
        rw (a.left, a.right)
        (shown c (limits_of x y) (standing x.records) (standing y.records) a.first.body a.second.body a.codes
        (stands y.records a.second a.live_second a.in_second) (stands x.records a.first a.live_first a.in_first))
