-- Copying down within a list, and closing up.
use Prim.Native.Nat.{ℕ, suc, ◌+◌, ◌-◌, ◌≤◌, ◌<◌}
use mathlib.Core.Path.{◌≡◌, refl, sym, ap, ◌∙◌, subst}
use mathlib.Core.List.{List, [], ◌∷◌, ◌++◌}
use native.Mathlib.Omega.{arith}
use lib.ListN.{length, take, drop, set, length-append, length-drop}
use lib.Seq.{sets, length-sets, drop-drop, drop_at, drop-set-lt, length-take-le, take-add, take-take}
use Rattle.number.specs.Septets.{Bytes}
use Rattle.fields.specs.Got.{Got, good, bad}
use Rattle.fields.specs.Put.{Put}
use Rattle.basics.proofs.Sets.{sets_append}
use Rattle.fields.proofs.Law.{bytes_drop, bytes_take}
use Rattle.header.specs.declared.Cursor.{Cursor}
use Rattle.entry.specs.Entry.{Entry, entry_bytes, read_entry, above}
use Rattle.book.specs.Book.{read_entries, live_bytes}
use Rattle.entry.specs.declared.Kind.TheVariants.{Live}
use Rattle.entry.specs.Kinds.{kind_of}
use Rattle.entry.specs.Told.{record_at}
use Rattle.entry.proofs.Entry.{entry_law, some_entry}
use Rattle.entry.proofs.Records.{of_live, of_closed, record_told, record_fault}
use Rattle.book.proofs.Entries.{behind, first_good, none_behind}
use Rattle.book.proofs.Measured.{live_kept, live_passed, none_live}
use Rattle.book.specs.Told.{AllGood}
use Rattle.closing_up.specs.Up.{entries_in, live_of}
use Rattle.entry.specs.declared.Record as told
use Rattle.std.specs.Prelude.{Ok, Err}
use Rattle.terms.specs.declared.Fault.{Fault}

-- ---- parts of lists
pub drop_take : (k len : ℕ) (l : List ℕ) → k ≤ len → len ≤ length l → drop k (take len l) ≡ take (len - k) (drop k l)
drop_take k len l h j =
    let e : len ≡ k + (len - k) = omega arith in
    ap (λ (m : ℕ). drop k (take m l)) e ∙ ap (drop k) (take-add k (len - k) l) ∙ drop_at (take k l) (take (len - k) (drop k l)) k (length-take-le k l (omega arith))

pub drop_sets : (vs l : List ℕ) (i k : ℕ) → i + length vs ≤ k → drop k (sets l i vs) ≡ drop k l
drop_sets [] l i k h = refl
drop_sets (v ∷ vs) l i k h = drop_sets vs (set l i v) (suc i) k (omega arith) ∙ drop-set-lt k l i v (omega arith)

-- ---- CLOSING UP: how far it has come. `room` is what is held. What is still to be read is as it was; storing what is left of the live entries gives what storing all
-- of them gives.
pub record Upto (room₀ : List ℕ) (len format from : ℕ) (room : List ℕ) (c : Cursor) (to : ℕ) : Type 0 where
  pub low : to ≤ c.at
  pub high : c.at ≤ len
  pub long : length room ≡ length room₀
  pub ahead : drop c.at room ≡ drop c.at room₀
  pub es : List Entry
  pub n : ℕ
  pub reads : read_entries format c.floor (drop c.at (take len room₀)) ≡ good es n
  pub stored : sets room to (live_bytes format es) ≡ sets room₀ from (live_of format (entries_in format room₀ len from))
  pub sum : to + length (live_bytes format es) ≡ from + length (live_of format (entries_in format room₀ len from))

pub upto_start : (room₀ : List ℕ) (len format from : ℕ) → from ≤ len → AllGood (entries_in format room₀ len from) → Upto room₀ len format from room₀ (record { at = from; floor = 0 }) from
upto_start room₀ len format from h x = record {
  low = omega arith;
  high = h;
  long = refl;
  ahead = refl;
  es = x.es;
  n = x.n;
  reads = x.is;
  stored = ap (λ (y : Got (List Entry)). sets room₀ from (live_of format y)) (sym x.is);
  sum = ap (λ (y : Got (List Entry)). from + length (live_of format y)) (sym x.is);
}

module _ (room₀ : List ℕ) (len format from : ℕ) (fits : len ≤ length room₀) (room : List ℕ) (c : Cursor) (to : ℕ) (x : Upto room₀ len format from room c to) where
  abbrev at : ℕ
  at = c.at

  abbrev floor : ℕ
  floor = c.floor

  abbrev l₀ : List ℕ
  l₀ = drop at (take len room₀)

  same_ahead : drop at (take len room) ≡ l₀
  same_ahead =
      drop_take at len room x.high (omega (arith, x.long)) ∙ ap (take (len - at)) x.ahead ∙ sym (drop_take at len room₀ x.high fits)

  ahead_length : length l₀ ≡ len - at
  ahead_length = length-drop at (take len room₀) ∙ ap (λ (k : ℕ). k - at) (length-take-le len room₀ fits)

  -- further on too it is as it was
  ahead_on : (j : ℕ) → at ≤ j → drop j room ≡ drop j room₀
  ahead_on j g =
      let d : at + (j - at) ≡ j = omega arith in
      ap (λ (i : ℕ). drop i room) (sym d) ∙ sym (drop-drop (j - at) at room) ∙ ap (drop (j - at)) x.ahead ∙ drop-drop (j - at) at room₀ ∙ ap (λ (i : ℕ). drop i room₀) d

  pub upto_end : len ≤ at → Put room₀ from (live_of format (entries_in format room₀ len from)) to room
  upto_end h =
      let z : x.es ≡ [] = none_behind format floor l₀ x.es x.n (omega (arith, ahead_length)) x.reads in
      let b : live_bytes format x.es ≡ [] = ap (live_bytes format) z ∙ none_live format in
      record { next = omega (arith, x.sum, ap length b); leaves = sym (ap (sets room to) b) ∙ x.stored }

  module _ (h : at < len) where
    pub upto_never : {B : Type 0} (f : Fault) → record_at format at (read_entry format floor (drop at (take len room))) ≡ Err f → B
    upto_never f p =
        let q : read_entry format floor (drop at (take len room)) ≡ bad f = record_fault format at f (read_entry format floor (drop at (take len room))) p in
        first_good format floor l₀ f x.es x.n (omega (arith, ahead_length)) (ap (read_entry format floor) (sym same_ahead) ∙ q) x.reads

    pub record Turn (r : told.Record) : Type 0 where
      pub e : Entry
      pub es' : List Entry
      pub m : ℕ
      pub rises : at < r.next.at
      pub within : r.next.at ≤ len
      pub kind : r.kind ≡ kind_of e.kind
      pub reads : read_entries format r.next.floor (drop r.next.at (take len room₀)) ≡ good es' m
      pub all : x.es ≡ e ∷ es'
      pub size : length (entry_bytes format e) ≡ r.next.at - at
      pub bytes : Bytes room₀ → take (r.next.at - at) (drop at room) ≡ entry_bytes format e

    pub turn : (r : told.Record) → record_at format at (read_entry format floor (drop at (take len room))) ≡ Ok r → Turn r
    turn r p =
        let t = record_told format at r (read_entry format floor (drop at (take len room))) p in
        let q : read_entry format floor l₀ ≡ good t.e t.n = ap (read_entry format floor) (sym same_ahead) ∙ t.is in
        let u : t.n ≡ length (entry_bytes format t.e) = (entry_law format floor).used l₀ t.e t.n q in
        let w : t.n ≤ length l₀ = (entry_law format floor).within l₀ t.e t.n q in
        let y = behind format floor l₀ t.e t.n x.es x.n q x.reads in
        let n : r.next.at - at ≡ t.n = omega (arith, t.place) in
        record {
          e = t.e;
          es' = y.es';
          m = y.m;
          rises = omega (arith, t.place, some_entry format t.e);
          within = omega (arith, t.place, ahead_length);
          kind = t.kind;
          reads = (λ i. read_entries format (t.floor i) (drop (t.place i) (take len room₀))) ∙ ap (read_entries format (above t.e)) (sym (drop-drop t.n at (take len room₀))) ∙ y.is;
          all = y.all;
          size = omega (arith, n, u);
          bytes = λ bs.
              ap (λ (j : ℕ). take j (drop at room)) n ∙ ap (take t.n) x.ahead
              ∙ sym (ap (take t.n) (drop_take at len room₀ x.high fits) ∙ take-take t.n (len - at) (drop at room₀) (omega (arith, ahead_length)))
              ∙ (entry_law format floor).only l₀ (bytes_drop at (take len room₀) (bytes_take len room₀ bs)) t.e t.n q;
        }

    module _ (r : told.Record) (t : Turn r) where
      passed : (r.kind ≡ Live → ⊥) → Upto room₀ len format from room r.next to
      passed z =
          let b : live_bytes format x.es ≡ live_bytes format t.es' = ap (live_bytes format) t.all ∙ live_passed format t.e t.es' (of_closed t.e.kind (λ y. z (t.kind ∙ y))) in
          record {
            low = omega (arith, x.low, t.rises);
            high = t.within;
            long = x.long;
            ahead = ahead_on r.next.at (omega (arith, t.rises));
            es = t.es';
            n = t.m;
            reads = t.reads;
            stored = sym (ap (sets room to) b) ∙ x.stored;
            sum = sym (ap (λ (j : List ℕ). to + length j) b) ∙ x.sum;
          }

      kept : Bytes room₀ → r.kind ≡ Live → (room' : List ℕ) → room' ≡ sets room to (take (r.next.at - at) (drop at room)) → Upto room₀ len format from room' r.next (to + (r.next.at - at))
      kept bs z room' d =
          let w : List ℕ = entry_bytes format t.e in
          let b : live_bytes format x.es ≡ w ++ live_bytes format t.es' = ap (live_bytes format) t.all ∙ live_kept format t.e t.es' (of_live t.e.kind (sym t.kind ∙ z)) in
          let u : room' ≡ sets room to w = d ∙ ap (sets room to) (t.bytes bs) in
          let s : to + (r.next.at - at) ≡ to + length w = omega (arith, t.size) in
          record {
            low = omega (arith, x.low, t.rises);
            high = t.within;
            long = ap length u ∙ length-sets room to w ∙ x.long;
            ahead = ap (drop r.next.at) u ∙ drop_sets w room to r.next.at (omega (arith, x.low, t.rises, t.size)) ∙ ahead_on r.next.at (omega (arith, t.rises));
            es = t.es';
            n = t.m;
            reads = t.reads;
            stored = (λ i. sets (u i) (s i) (live_bytes format t.es')) ∙ sets_append w room (live_bytes format t.es') to ∙ sym (ap (sets room to) b) ∙ x.stored;
            sum = omega (arith, x.sum, ap length b, length-append w (live_bytes format t.es'), t.size);
          }

      module _ (room' : List ℕ) (to' : ℕ) where
        -- the same, of what the two paths leave
        left_as : (q : List ℕ) (k : ℕ) → Upto room₀ len format from q r.next k → room' ≡ q → to' ≡ k → Upto room₀ len format from room' r.next to'
        left_as q k y e f = subst (λ (j : ℕ). Upto room₀ len format from room' r.next j) (sym f) (subst (λ (l : List ℕ). Upto room₀ len format from l r.next k) (sym e) y)

        pub upto_passed : (r.kind ≡ Live → ⊥) → room' ≡ room → to' ≡ to → Upto room₀ len format from room' r.next to'
        upto_passed z = left_as room to (passed z)

        pub upto_kept : Bytes room₀ → r.kind ≡ Live → room' ≡ sets room to (take (r.next.at - at) (drop at room)) → to' ≡ to + (r.next.at - at) → Upto room₀ len format from room' r.next to'
        upto_kept bs z = left_as (sets room to (take (r.next.at - at) (drop at room))) (to + (r.next.at - at)) (kept bs z _ refl)
