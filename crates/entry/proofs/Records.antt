-- From a kind and a record to a record with its kind, and what was told of one.
use Prim.Native.Nat.{ℕ, ◌+◌, ◌≤◌}
use mathlib.Core.Path.{◌≡◌, refl, sym, ap, ◌∙◌}
use mathlib.Core.Bool.{Bool, true, false, cond}
use mathlib.Core.List.{List}
use native.Mathlib.Omega.{arith}
use borrow.Author.Tests.{le-leb, ne_eqb, eqb-true}
use denote.Enum.Bare.{sameb}
use lib.Dec.{eqb, leb}
use lib.ListN.{length, drop}
use Rattle.std.specs.Prelude.{Some, None, Ok, Err}
use Rattle.terms.specs.declared.Fault.{Fault}
use Rattle.terms.specs.declared.Fault.TheVariants.{NotKnown}
use Rattle.fields.specs.declared.Field.{Field}
use Rattle.entry.specs.declared.Record as told
use Rattle.fields.specs.Got.{Got, good, bad, Both, read_both, mapped}
use Rattle.fields.specs.Field.{read_number}
use Rattle.fields.specs.Told.{field_at, value_at, span_at}
use Rattle.fields.proofs.Told.{FieldTold, field_told, field_fault, value_told, value_fault, then_good, then_first, then_second}
use Rattle.entry.specs.Entry.{Record, Entry, kind_bytes, read_record, read_kind, entry_of, read_entry, above}
use Rattle.entry.specs.declared.Kind.{Kind}
use Rattle.entry.specs.declared.Kind.TheVariants.{Closed, Live}
use Rattle.entry.specs.contracts.Kind.{the_type}
use Rattle.entry.specs.Kinds.{number_of, kinds, kind_of, kind_named}
use Rattle.entry.specs.Told.{primary_place, alternate_place, lies, body_at, body_place, record_at}
use Rattle.entry.proofs.Entry.{kind_law}

-- ---- a kind
pub kind_good : (v : ℕ) → v ≤ 1 → kinds v ≡ None
kind_good v h = rw (le-leb v 1 h)

pub of_live : (n : ℕ) → kind_of n ≡ Live → n ≡ 1
of_live n e = go (eqb n 1) refl e
  where
    go : (t : Bool) → eqb n 1 ≡ t → cond t Live Closed ≡ Live → n ≡ 1
    go true d h = eqb-true n 1 d
    go false d h = let z : ◌≡◌ {A = ℕ} 0 1 = cc in absurd (omega arith)

pub of_closed : (n : ℕ) → (kind_of n ≡ Live → ⊥) → n ≡ 1 → ⊥
of_closed n z e = z (rw e)

pub number_live : (n : ℕ) → eqb (number_of (kind_of n)) 1 ≡ eqb n 1
number_live n = go (eqb n 1)
  where
    go : (t : Bool) → eqb (number_of (cond t Live Closed)) 1 ≡ t
    go true = refl
    go false = refl

-- a kind that was compared with the live one
pub same_live : (k : Kind) → true ≡ sameb the_type k Live → k ≡ Live
same_live Live e = refl
same_live Closed e = let z : ◌≡◌ {A = ℕ} 0 1 = cc in absurd (omega arith)

pub other_kind : (k : Kind) → false ≡ sameb the_type k Live → k ≡ Live → ⊥
other_kind Live e d = let z : ◌≡◌ {A = ℕ} 0 1 = cc in omega arith
other_kind Closed e d = let z : ◌≡◌ {A = ℕ} 0 1 = cc in omega arith

-- what a number names, judged
pub named_bad : (n : ℕ) (f : Fault) → Err f ≡ kind_named n → kinds n ≡ Some f
named_bad n f e = go (leb n 1) e
  where
    go : (t : Bool) → Err f ≡ cond t (Ok (kind_of n)) (Err NotKnown) → cond t None (Some NotKnown) ≡ Some f
    go true h = let z : ◌≡◌ {A = ℕ} 0 1 = cc in absurd (omega arith)
    go false h = let d : f ≡ NotKnown = cc in ap Some (sym d)

pub named_good : (n : ℕ) (k : Kind) → Ok k ≡ kind_named n → (kinds n ≡ None) × (k ≡ kind_of n)
named_good n k e = go (leb n 1) e
  where
    go : (t : Bool) → Ok k ≡ cond t (Ok (kind_of n)) (Err NotKnown) → (cond t None (Some NotKnown) ≡ None) × (k ≡ kind_of n)
    go true h = (refl, cc)
    go false h = let z : ◌≡◌ {A = ℕ} 0 1 = cc in absurd (omega arith)

-- a number told as its kind
module _ (at : ℕ) (x : Got ℕ) where
  pub kind_fault_told : (f : Fault) → Err f ≡ value_at at x → Err f ≡ field_at kind_of at x
  kind_fault_told f e = sym (ap (field_at kind_of at) (value_fault at f x (sym e)))

  pub kind_told : (f : Field ℕ) (k : Kind) → k ≡ kind_of f.value → Ok f ≡ value_at at x → Ok (record { value = k; next = f.next }) ≡ field_at kind_of at x
  kind_told f k d e =
      let t = value_told at f x (sym e) in
      (λ i. Ok (record { value = d i; next = sym t.place i })) ∙ sym (ap (field_at kind_of at) t.is)

module _ (format : ℕ) (l : List ℕ) where
  pub kind_unspelt : format ≡ 1 → read_kind format l ≡ good 1 0
  unfolding read_kind
  kind_unspelt e = rw e

  pub kind_spelt : (format ≡ 1 → ⊥) → read_kind format l ≡ read_number kinds l
  unfolding read_kind
  kind_spelt z = rw (ne_eqb format 1 z)

-- ---- a record with its kind
module _ (format floor : ℕ) (s : List ℕ) (at : ℕ) where
  pub kind_body : (k : Field Kind) → field_at kind_of at (read_kind format (drop at s)) ≡ Ok k
      → body_at k.value k.next (read_record floor (drop k.next s)) ≡ record_at format at (read_entry format floor (drop at s))
  unfolding read_entry
  kind_body k p = go (read_record floor (drop k.next s)) refl
    where
      x : FieldTold kind_of at k (read_kind format (drop at s))
      x = field_told kind_of at k (read_kind format (drop at s)) p

      go : (y : Got Record) → read_record floor (drop k.next s) ≡ y → body_at k.value k.next y ≡ record_at format at (mapped entry_of (read_both (read_kind format) (read_record floor) (drop at s)))
      go (bad f) d =
          sym (ap (λ (g : Got (Both ℕ Record)). record_at format at (mapped entry_of g)) (then_second (read_kind format) (read_record floor) s at x.a x.n f x.is (rw x.place d)))
      go (good r n) d =
          let u : x.n ≡ length (kind_bytes format x.a) = (kind_law format).used (drop at s) x.a x.n x.is in
          let w : read_both (read_kind format) (read_record floor) (drop at s) ≡ good (record { front = x.a; behind = r }) (x.n + n) =
          then_good (read_kind format) (read_record floor) s at x.a x.n r n x.is (rw x.place d) in
          let bp : k.next ≡ at + length (kind_bytes format x.a) = omega (arith, x.place, u) in
          let nx : k.next + n ≡ at + (x.n + n) = omega (arith, x.place) in
          (λ i. Ok (lies (sym x.value i) (bp i) (nx i) r)) ∙ sym (ap (λ (g : Got (Both ℕ Record)). record_at format at (mapped entry_of g)) w)

  pub kind_fault : (f : Fault) → field_at kind_of at (read_kind format (drop at s)) ≡ Err f → Err f ≡ record_at format at (read_entry format floor (drop at s))
  unfolding read_entry
  kind_fault f p =
      let w = then_first (read_kind format) (read_record floor) s at f (field_fault kind_of at f (read_kind format (drop at s)) p) in
      sym (ap (λ (g : Got (Both ℕ Record)). record_at format at (mapped entry_of g)) w)

-- ---- what was told
pub record RecordTold (format at : ℕ) (r : told.Record) (x : Got Entry) : Type 0 where
  pub e : Entry
  pub n : ℕ
  pub is : x ≡ good e n
  pub kind : r.kind ≡ kind_of e.kind
  pub station : r.station ≡ e.body.station
  pub primary : r.primary ≡ span_at (primary_place (body_place format at e) e.body) e.body.primary
  pub alternate : r.alternate ≡ span_at (alternate_place (body_place format at e) e.body) e.body.alternate
  pub place : r.next.at ≡ at + n
  pub floor : r.next.floor ≡ above e

module _ (format at : ℕ) where
  pub record_told : (r : told.Record) (x : Got Entry) → record_at format at x ≡ Ok r → RecordTold format at r x
  record_told r (bad g) q = let z : ◌≡◌ {A = ℕ} 0 1 = cc in absurd (omega arith)
  record_told r (good e n) q =
      let d : r ≡ lies (kind_of e.kind) (body_place format at e) (at + n) e.body = (let d' : lies (kind_of e.kind) (body_place format at e) (at + n) e.body ≡ r = cc in sym d') in
      record {
        e = e;
        n = n;
        is = refl;
        kind = ap (λ (j : told.Record). j.kind) d;
        station = ap (λ (j : told.Record). j.station) d;
        primary = ap (λ (j : told.Record). j.primary) d;
        alternate = ap (λ (j : told.Record). j.alternate) d;
        place = ap (λ (j : told.Record). j.next.at) d;
        floor = ap (λ (j : told.Record). j.next.floor) d;
      }

  pub record_fault : (f : Fault) (x : Got Entry) → record_at format at x ≡ Err f → x ≡ bad f
  record_fault f (bad g) e = let fs : g ≡ f = cc in ap (λ (y : Fault). bad y) fs
  record_fault f (good r n) e = let z : ◌≡◌ {A = ℕ} 0 1 = cc in absurd (omega arith)
