-- The walk to the live record of a station.
use Prim.Native.Nat.{ℕ, ◌+◌, ◌≤◌, ◌<◌}
use mathlib.Core.Path.{◌≡◌, sym, ap, ◌∙◌}
use mathlib.Core.Bool.{Bool, true, false, cond, ◌&&◌}
use mathlib.Core.List.{List, [], ◌∷◌}
use native.Mathlib.Omega.{arith}
use lib.Dec.{eqb}
use lib.ListN.{length, drop, length-drop}
use lib.Seq.{drop-drop}
use Rattle.fields.specs.Got.{Got, good}
use Rattle.header.specs.declared.Cursor.{Cursor}
use Rattle.entry.specs.declared.Record as told
use Rattle.std.specs.Prelude.{Ok, Err}
use Rattle.terms.specs.declared.Fault.{Fault}
use Rattle.terms.specs.declared.Fault.TheVariants.{NoLive}
use Rattle.entry.specs.Entry.{Entry, entry_bytes, read_entry, above}
use Rattle.book.specs.Book.{read_entries}
use Rattle.entry.specs.Kinds.{number_of}
use Rattle.entry.specs.Told.{record_at}
use Rattle.entry.proofs.Entry.{entry_law, some_entry}
use Rattle.entry.proofs.Records.{number_live, RecordTold, record_told, record_fault}
use Rattle.book.proofs.Entries.{Behind, behind, first_good, none_behind}
use Rattle.finding.specs.Finding.{meant, place_of, Place, place_told, sought_by, Sought}
use Rattle.book.specs.Told.{AllGood}

-- ---- how far the walk has come
pub record Seeking (s : List ℕ) (format station from : ℕ) (c : Cursor) : Type 0 where
  pub es : List Entry
  pub n : ℕ
  pub reads : read_entries format c.floor (drop c.at s) ≡ good es n
  pub left : place_told (place_of format station c.at es) ≡ place_told (sought_by format station from (read_entries format 0 (drop from s)))

pub seek_start : (s : List ℕ) (format station from : ℕ) → AllGood (read_entries format 0 (drop from s)) → Seeking s format station from (record { at = from; floor = 0 })
seek_start s format station from x = record { es = x.es; n = x.n; reads = x.is; left = ap (λ (y : Got (List Entry)). place_told (sought_by format station from y)) (sym x.is) }

no_place : {B : Type 0} (f : Fault) (p : ℕ) → ◌≡◌ {A = Place} (Err f) (Ok p) → B
no_place f p e = let z : ◌≡◌ {A = ℕ} 0 1 = cc in absurd (omega arith)

module _ (s : List ℕ) (format station from : ℕ) (c : Cursor) (x : Seeking s format station from c) where
  abbrev at : ℕ
  at = c.at

  abbrev floor : ℕ
  floor = c.floor

  pub seek_none : length s ≤ at → Sought s format station from (Err NoLive)
  seek_none h =
      let z : x.es ≡ [] = none_behind format floor (drop at s) x.es x.n (omega (arith, length-drop at s)) x.reads in
      record { answer = sym (ap (λ (y : List Entry). place_told (place_of format station at y)) z) ∙ x.left; inside = λ p e. no_place NoLive p e }

  module _ (h : at < length s) where
    pub seek_never : {B : Type 0} (f : Fault) → record_at format at (read_entry format floor (drop at s)) ≡ Err f → B
    seek_never f p = first_good format floor (drop at s) f x.es x.n (omega (arith, length-drop at s)) (record_fault format at f (read_entry format floor (drop at s)) p) x.reads

    module _ (r : told.Record) (p : record_at format at (read_entry format floor (drop at s)) ≡ Ok r) where
      pub record Passing : Type 0 where
        pub e : Entry
        pub es' : List Entry
        pub m : ℕ
        pub all : x.es ≡ e ∷ es'
        pub rises : at < r.next.at
        pub within : r.next.at ≤ length s
        pub place : r.next.at ≡ at + length (entry_bytes format e)
        pub meets : (eqb (number_of r.kind) 1 && eqb r.station station) ≡ meant station e
        pub reads : read_entries format r.next.floor (drop r.next.at s) ≡ good es' m

      pub passing : Passing
      passing =
          let t : RecordTold format at r (read_entry format floor (drop at s)) = record_told format at r (read_entry format floor (drop at s)) p in
          let u : t.n ≡ length (entry_bytes format t.e) = (entry_law format floor).used (drop at s) t.e t.n t.is in
          let w : t.n ≤ length (drop at s) = (entry_law format floor).within (drop at s) t.e t.n t.is in
          let y : Behind format (drop at s) t.e t.n x.es = behind format floor (drop at s) t.e t.n x.es x.n t.is x.reads in
          record {
            e = t.e;
            es' = y.es';
            m = y.m;
            all = y.all;
            rises = omega (arith, t.place, some_entry format t.e);
            within = omega (arith, t.place, length-drop at s);
            place = omega (arith, t.place, u);
            meets = (λ i. eqb (number_of (t.kind i)) 1 && eqb (t.station i) station) ∙ ap (λ (j : Bool). j && eqb t.e.body.station station) (number_live t.e.kind);
            reads = (λ i. read_entries format (t.floor i) (drop (t.place i) s)) ∙ ap (read_entries format (above t.e)) (sym (drop-drop t.n at s)) ∙ y.is;
          }

      pub seek_hit : (eqb (number_of r.kind) 1 && eqb r.station station) ≡ true → Sought s format station from (Ok at)
      seek_hit b =
          let t : Passing = passing in
          let c : place_told (place_of format station at (t.e ∷ t.es')) ≡ Ok at = ap (λ (j : Bool). place_told (cond j (good at 1) (place_of format station (at + length (entry_bytes format t.e)) t.es'))) (sym t.meets ∙ b) in
          record {
            answer = sym c ∙ sym (ap (λ (y : List Entry). place_told (place_of format station at y)) t.all) ∙ x.left;
            inside = λ q e. let z : at ≡ q = cc in omega arith;
          }

      pub seek_on : (eqb (number_of r.kind) 1 && eqb r.station station) ≡ false → Seeking s format station from r.next
      seek_on b =
          let t : Passing = passing in
          let c : place_told (place_of format station at (t.e ∷ t.es')) ≡ place_told (place_of format station r.next.at t.es') =
          ap (λ (j : Bool). place_told (cond j (good at 1) (place_of format station (at + length (entry_bytes format t.e)) t.es'))) (sym t.meets ∙ b)
          ∙ ap (λ (j : ℕ). place_told (place_of format station j t.es')) (sym t.place) in
          record { es = t.es'; n = t.m; reads = t.reads; left = sym c ∙ sym (ap (λ (y : List Entry). place_told (place_of format station at y)) t.all) ∙ x.left }
