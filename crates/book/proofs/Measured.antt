-- Records measured one after another, to the end of the book.
use Prim.Native.Nat.{ℕ, ◌+◌, ◌-◌, ◌≤◌, ◌<◌}
use mathlib.Core.Path.{◌≡◌, refl, sym, ap, ◌∙◌}
use mathlib.Core.List.{List, [], ◌∷◌, ◌++◌}
use native.Mathlib.Omega.{arith}
use borrow.Author.Tests.{ne_eqb}
use lib.ListN.{length, drop, length-append, length-drop, drop_of_length-le}
use lib.Seq.{drop-drop}
use Rattle.std.specs.Prelude.{Ok, Err}
use Rattle.terms.specs.declared.Fault.{Fault}
use Rattle.entry.specs.declared.Record as told
use Rattle.fields.specs.Got.{Got, good, bad, grown, read_all}
use Rattle.fields.proofs.All as all
use Rattle.header.specs.declared.Cursor.{Cursor}
use Rattle.entry.specs.declared.Kind.{Kind}
use Rattle.entry.specs.declared.Kind.TheVariants.{Live}
use Rattle.book.specs.declared.Measure.{Measure}
use Rattle.entry.specs.Entry.{Entry, entry_bytes, read_entry, above}
use Rattle.book.specs.Book.{read_entries, live, live_bytes, floor_of}
use Rattle.entry.specs.Told.{record_at}
use Rattle.book.specs.Told.{surveyed}
use Rattle.entry.proofs.Entry.{entry_law, some_entry}
use Rattle.entry.proofs.Records.{of_live, of_closed, record_told, record_fault}

-- ---- the live ones
module _ (format : ℕ) (e : Entry) (es : List Entry) where
  pub live_kept : e.kind ≡ 1 → live_bytes format (e ∷ es) ≡ entry_bytes format e ++ live_bytes format es
  unfolding live_bytes
  live_kept k = rw k

  pub live_passed : (e.kind ≡ 1 → ⊥) → live_bytes format (e ∷ es) ≡ live_bytes format es
  unfolding live_bytes
  live_passed z = rw (ne_eqb e.kind 1 z)

pub none_live : (format : ℕ) → live_bytes format [] ≡ []
unfolding live_bytes
none_live format = refl

-- what was measured, with one entry more of so many bytes
abbrev pub with_live : Measure → ℕ → ℕ → Measure
with_live m floor n = record { count = m.count + 1; live = m.live + 1; floor = floor; least = floor; size = m.size + n }

abbrev pub with_closed : Measure → ℕ → Measure
with_closed m floor = record { count = m.count + 1; live = m.live; floor = floor; least = m.least; size = m.size }

module _ (format : ℕ) (m : Measure) (e : Entry) (n : ℕ) where
  one_live : e.kind ≡ 1 → (x : Got (List Entry)) → surveyed format m (grown e n x) ≡ surveyed format (with_live m (above e) (length (entry_bytes format e))) x
  one_live k (bad f) = refl
  one_live k (good es j) =
      let w : List ℕ = entry_bytes format e in
      let l : live (e ∷ es) ≡ e ∷ live es = rw k in
      let c : m.count + length (e ∷ es) ≡ m.count + 1 + length es = omega arith in
      let v : m.live + length (live (e ∷ es)) ≡ m.live + 1 + length (live es) = omega (arith, ap length l) in
      let z : m.size + length (live_bytes format (e ∷ es)) ≡ m.size + length w + length (live_bytes format es) = omega (arith, ap length (live_kept format e es k), length-append w (live_bytes format es)) in
      λ i. Ok (record { count = c i; live = v i; floor = floor_of (above e) es; least = floor_of m.least (l i); size = z i })

  one_closed : (e.kind ≡ 1 → ⊥) → (x : Got (List Entry)) → surveyed format m (grown e n x) ≡ surveyed format (with_closed m (above e)) x
  one_closed k (bad f) = refl
  one_closed k (good es j) =
      let l : live (e ∷ es) ≡ live es = rw (ne_eqb e.kind 1 k) in
      let c : m.count + length (e ∷ es) ≡ m.count + 1 + length es = omega arith in
      λ i. Ok (record { count = c i; live = m.live + length (l i); floor = floor_of (above e) es; least = floor_of m.least (l i); size = m.size + length (live_passed format e es k i) })

module _ (format : ℕ) (s : List ℕ) (at floor : ℕ) (h : at < length s) (m : Measure) where
  pub record Turn (k : Kind) (cur : Cursor) : Type 0 where
    pub rises : at < cur.at
    pub within : cur.at ≤ length s
    pub kept : k ≡ Live → surveyed format (with_live m cur.floor (cur.at - at)) (read_entries format cur.floor (drop cur.at s)) ≡ surveyed format m (read_entries format floor (drop at s))
    pub passed : (k ≡ Live → ⊥) → surveyed format (with_closed m cur.floor) (read_entries format cur.floor (drop cur.at s)) ≡ surveyed format m (read_entries format floor (drop at s))

  pub turn : (r : told.Record) → record_at format at (read_entry format floor (drop at s)) ≡ Ok r → Turn r.kind r.next
  unfolding read_entries
  turn r p =
      let t = record_told format at r (read_entry format floor (drop at s)) p in
      let e : Entry = t.e in
      let u : t.n ≡ length (entry_bytes format e) = (entry_law format floor).used (drop at s) e t.n t.is in
      let w : t.n ≤ length (drop at s) = (entry_law format floor).within (drop at s) e t.n t.is in
      let x = read_all (read_entry format) above (above e) 0 (drop (at + t.n) s) in
      let g : read_all (read_entry format) above floor 0 (drop at s) ≡ grown e t.n x =
      all.one_more (read_entry format) above floor (drop at s) e t.n t.is (omega (arith, some_entry format e)) w
      ∙ ap (λ (l : List ℕ). grown e t.n (read_all (read_entry format) above (above e) 0 l)) (drop-drop t.n at s) in
      let z : r.next.at - at ≡ length (entry_bytes format e) = omega (arith, t.place, u) in
      record {
        rises = omega (arith, t.place, some_entry format e);
        within = omega (arith, t.place, length-drop at s);
        kept = λ j.
            (λ i. surveyed format (with_live m (t.floor i) (z i)) (read_all (read_entry format) above (t.floor i) 0 (drop (t.place i) s)))
            ∙ sym (ap (surveyed format m) g ∙ one_live format m e t.n (of_live e.kind (sym t.kind ∙ j)) x);
        passed = λ j.
            (λ i. surveyed format (with_closed m (t.floor i)) (read_all (read_entry format) above (t.floor i) 0 (drop (t.place i) s)))
            ∙ sym (ap (surveyed format m) g ∙ one_closed format m e t.n (of_closed e.kind (λ y. j (t.kind ∙ y))) x);
      }

  pub stopped : (f : Fault) → record_at format at (read_entry format floor (drop at s)) ≡ Err f → Err f ≡ surveyed format m (read_entries format floor (drop at s))
  unfolding read_entries
  stopped f p =
      sym (ap (surveyed format m) (all.one_bad (read_entry format) above floor (drop at s) f (omega (arith, length-drop at s)) (record_fault format at f (read_entry format floor (drop at s)) p)))

-- the same, where what was measured so far is known by an equation
module _ (format : ℕ) (s : List ℕ) (at floor : ℕ) (h : at < length s) (m : Measure) (k : Kind) (cur : Cursor) (t : Turn format s at floor h m k cur) (a : Measure) where
  abbrev counted : Measure
  counted = record { count = a.count + 1; live = a.live; floor = cur.floor; least = a.least; size = a.size }

  pub counted_live : k ≡ Live → a ≡ record { count = m.count; live = m.live + 1; floor = m.floor; least = cur.floor; size = m.size + (cur.at - at) }
      → surveyed format counted (read_entries format cur.floor (drop cur.at s)) ≡ surveyed format m (read_entries format floor (drop at s))
  counted_live j p =
      (λ i. surveyed format (record { count = (p i).count + 1; live = (p i).live; floor = cur.floor; least = (p i).least; size = (p i).size }) (read_entries format cur.floor (drop cur.at s))) ∙ t.kept j

  pub counted_closed : (k ≡ Live → ⊥) → a ≡ m → surveyed format counted (read_entries format cur.floor (drop cur.at s)) ≡ surveyed format m (read_entries format floor (drop at s))
  counted_closed j p =
      (λ i. surveyed format (record { count = (p i).count + 1; live = (p i).live; floor = cur.floor; least = (p i).least; size = (p i).size }) (read_entries format cur.floor (drop cur.at s))) ∙ t.passed j

pub ended : (format : ℕ) (s : List ℕ) (at floor : ℕ) (m : Measure) → m.floor ≡ floor → length s ≤ at → Ok m ≡ surveyed format m (read_entries format floor (drop at s))
unfolding read_entries
ended format s at floor m e h =
    let c : m.count ≡ m.count + 0 = omega arith in
    let v : m.live ≡ m.live + 0 = omega arith in
    let z : m.size ≡ m.size + length (live_bytes format []) = omega (arith, ap length (none_live format)) in
    rw (drop_of_length-le s h) (λ i. Ok (record { count = c i; live = v i; floor = m.floor; least = m.least; size = z i }))
