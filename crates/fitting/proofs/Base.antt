-- A record added behind its base, from what the tests show.
use Prim.Native.Nat.{ℕ, ◌+◌, ◌≤◌, ◌<◌}
use mathlib.Core.Path.{◌≡◌, refl, sym, ap, ◌∙◌, subst}
use mathlib.Core.Bool.{Bool, true, false, cond}
use mathlib.Core.List.{List, [], ◌∷◌, ◌++◌, append_assoc}
use native.Mathlib.Omega.{arith}
use borrow.Author.Tests.{lt-ltb, le-ltb, le-leb}
use lib.Dec.{ltb, leb, eqb}
use lib.ListN.{length, take, drop, length-append, take-append-drop}
use lib.Seq.{sets, sets-eq, length-take-le, take-take, take_at}
use Rattle.number.specs.Septets.{Bytes}
use Rattle.fields.specs.Got.{Got, good, bad, write_all}
use Rattle.fields.specs.Put.{Put}
use Rattle.basics.proofs.Sets.{sets_append}
use Rattle.header.specs.declared.Header.{Header}
use Rattle.book.specs.declared.Measure.{Measure}
use Rattle.book.specs.declared.Whole.{Whole}
use Rattle.entry.specs.Entry.{Entry, entry_bytes}
use Rattle.book.specs.Book.{Book, written, read_entries, read_book_by, live, live_bytes, floor_of}
use Rattle.header.specs.Head.{header_bytes, formats}
use Rattle.book.specs.Told.{measured, unmeasured, whole_by, AllGood}
use Rattle.book.proofs.Book.{one_book, laid}
use Rattle.terms.specs.declared.Fault.TheVariants.{NoRoom}
use Rattle.putting.specs.declared.NewRecord.{NewRecord}
use Rattle.putting.specs.Laid.{placed, left, unless, Placed, Made}
use Rattle.putting.specs.New.{new_entry}
use Rattle.putting.proofs.Laid.{placed_short, unless_ok}
use Rattle.placing.specs.Placing.{station_fault, floor_where}
use Rattle.book.specs.Room.{read_in_by, read_in}
use Rattle.book.proofs.Room.{lies}
use Rattle.closing_up.specs.Up.{entries_in, live_of}
use Rattle.fields.proofs.Law.{bytes_take}
use Rattle.fitting.specs.Base.{base_of, add_base, add_placed, add_left, add_answer, add_leaves, AddedAs, CodedAdded, Stands}
use Rattle.std.specs.Prelude.{Option, Some, None, Ok, Err}
use Rattle.terms.specs.declared.Fault.{Fault}

-- ---- bytes in front that stand there already
pub sets_same : (l x : List ℕ) (k : ℕ) → k ≤ length l → sets l 0 (take k l ++ x) ≡ sets l k x
sets_same l x k h =
    let t : List ℕ = take k l in
    let e : length t ≡ k = length-take-le k l h in
    let z : 0 + length t ≡ k = omega arith in
    let i : sets l 0 t ≡ l = sets-eq t l 0 (omega arith) ∙ ap (λ (j : ℕ). take 0 l ++ t ++ drop j l) z ∙ take-append-drop k l in
    sym (sets_append t l x 0) ∙ (λ j. sets (i j) (z j) x)

live_short : (format : ℕ) (es : List Entry) → length (live_bytes format es) ≤ length (write_all (entry_bytes format) es)
unfolding live_bytes
live_short format [] = omega arith
live_short format (e ∷ es) = go (eqb e.kind 1) (live_short format es)
  where
    go : (t : Bool) → length (write_all (entry_bytes format) (live es)) ≤ length (write_all (entry_bytes format) es)
        → length (write_all (entry_bytes format) (cond t (e ∷ live es) (live es))) ≤ length (entry_bytes format e ++ write_all (entry_bytes format) es)
    go true ih = omega (arith, length-append (entry_bytes format e) (write_all (entry_bytes format) es), length-append (entry_bytes format e) (write_all (entry_bytes format) (live es)))
    go false ih = omega (arith, length-append (entry_bytes format e) (write_all (entry_bytes format) es))

take_front : (room : List ℕ) (len at : ℕ) (w v : List ℕ) → at ≡ length w → take len room ≡ w ++ v → len ≡ length w + length v → take at room ≡ w
take_front room len at w v e q k = sym (take-take at len room (omega arith)) ∙ ap (take at) q ∙ take_at w v at (sym e)

-- ---- the book that stands
pub record Standing (room : List ℕ) (len : ℕ) (w : Whole) : Type 0 where
  pub es : List Entry
  pub n : ℕ
  pub is : read_in_by (formats 1) room len ≡ good (record { header = w.header; records = es }) n
  pub first : w.first ≡ length (header_bytes w.header)
  pub floor : w.measure.floor ≡ floor_of 0 es
  pub least : w.measure.least ≡ floor_of 0 (live es)
  pub size : w.measure.size ≡ length (live_bytes w.header.format es)
  pub front : take w.first room ≡ header_bytes w.header
  pub base : length (written w.header (live es)) ≡ w.first + w.measure.size
  pub low : w.first + w.measure.size ≤ len
  pub entries : AllGood (entries_in w.header.format room len w.first)
  pub lives : live_of w.header.format (entries_in w.header.format room len w.first) ≡ live_bytes w.header.format es

pub standing : (room : List ℕ) (len : ℕ) (w : Whole) → Stands room len w → Bytes room → Standing room len w
unfolding written live_bytes
standing room len w st bs = go (read_in_by (formats 1) room len) refl st.told
  where
    s : List ℕ
    s = take len room

    by : (es : List Entry) (n : ℕ) → read_in_by (formats 1) room len ≡ good (record { header = w.header; records = es }) n → w.first ≡ length (header_bytes w.header) → w.measure ≡ measured w.header.format unmeasured es → Standing room len w
    by es n d f v =
        let h : Header = w.header in
        let b : Book = record { header = h; records = es } in
        let r : read_book_by (formats 1) s ≡ good b n = (lies (formats 1) room len b n d).reads in
        let o = one_book (formats 1) s (bytes_take len room bs) b n r in
        let l = laid (formats 1) s b n r in
        let x : List ℕ = header_bytes h in
        let all : List ℕ = write_all (entry_bytes h.format) es in
        let z : w.measure.size ≡ length (live_bytes h.format es) = ap (λ (k : Measure). k.size) v ∙ omega arith in
        let k : len ≡ length x + length all = sym (length-take-le len room st.fits) ∙ ap length o.bytes ∙ length-append x all in
        let g : read_entries h.format 0 (drop w.first s) ≡ good es l.n = ap (λ (j : ℕ). read_entries h.format 0 (drop j s)) f ∙ l.records in
        record {
          es = es;
          n = n;
          is = d;
          first = f;
          floor = ap (λ (k : Measure). k.floor) v;
          least = ap (λ (k : Measure). k.least) v;
          size = z;
          front = take_front room len w.first x all f o.bytes k;
          base = omega (arith, length-append x (write_all (entry_bytes h.format) (live es)), z, f);
          low = omega (arith, k, z, f, live_short h.format es);
          entries = record { es = es; n = l.n; is = g };
          lives = ap (live_of h.format) g;
        }

    go : (y : Got Book) → read_in_by (formats 1) room len ≡ y → whole_by y ≡ Ok w → Standing room len w
    go (bad f) d e = let z : ◌≡◌ {A = ℕ} 0 1 = cc in absurd (omega arith)
    go (good b n) d e =
        let u : record { header = b.header; first = length (header_bytes b.header); measure = measured b.header.format unmeasured b.records } ≡ w = cc in
        by b.records n (d ∙ (λ i. good (record { header = (u i).header; records = b.records }) n)) (sym (ap (λ (k : Whole). k.first) u) ∙ ap (λ (k : Whole). length (header_bytes k.header)) u)
        (sym (ap (λ (k : Whole). k.measure) u) ∙ ap (λ (k : Whole). measured k.header.format unmeasured b.records) u)

-- ---- what was added, by the base that it goes behind
pub by_base : (fault : ℕ → Option Fault) (new : Header → List ℕ) (room : List ℕ) (len : ℕ) (b : Book) (n : ℕ) → read_in room len ≡ good b n
    → (t : Bool) → ltb (length room) (len + length (new b.header)) ≡ t → (r : Made) (room' : List ℕ) → r ≡ add_placed fault room (base_of t room len b) (new b.header)
    → room' ≡ add_left (add_placed fault room (base_of t room len b) (new b.header)) room (base_of t room len b) (new b.header) → AddedAs fault new room len r room'
by_base fault new room len b n e t d r room' p q =
    let w : List ℕ = new b.header in
    record {
      answer = p ∙ ap (λ (j : Bool). add_placed fault room (base_of j room len b) w) (sym d) ∙ sym (ap (add_answer fault new room len) e);
      leaves = q ∙ ap (λ (j : Bool). add_left (add_placed fault room (base_of j room len b) w) room (base_of j room len b) w) (sym d) ∙ sym (ap (add_leaves fault new room len) e);
    }

module _ (fault : ℕ → Option Fault) (new : Header → List ℕ) (room : List ℕ) (len : ℕ) (whole : Whole) (stands : Stands room len whole) (bs : Bytes room) where
  abbrev x : Standing room len whole
  x = standing room len whole stands bs

  abbrev fits : len ≤ length room
  fits = stands.fits

  abbrev h : Header
  h = whole.header

  abbrev at : ℕ
  at = whole.first

  abbrev m : Measure
  m = whole.measure

  abbrev W : List ℕ
  W = new h

  abbrev b₀ : Book
  b₀ = record { header = h; records = x.es }

  by_this : (t : Bool) → ltb (length room) (len + length W) ≡ t → (r : Made) (room' : List ℕ) → r ≡ add_placed fault room (base_of t room len b₀) W
      → room' ≡ add_left (add_placed fault room (base_of t room len b₀) W) room (base_of t room len b₀) W → AddedAs fault new room len r room'
  by_this = by_base fault new room len b₀ x.n x.is

  -- a fault whatever the floor is
  pub added_never : (f : Fault) → ((floor : ℕ) → Some f ≡ fault floor) → AddedAs fault new room len (Err f) room
  added_never f e = go (ltb (length room) (len + length W)) refl
    where
      go : (t : Bool) → ltb (length room) (len + length W) ≡ t → AddedAs fault new room len (Err f) room
      go t d =
          let c : add_placed fault room (base_of t room len b₀) W ≡ Err f = ap (λ (k : Option Fault). placed k (length room) (length (base_of t room len b₀).front) W) (sym (e (floor_of 0 (base_of t room len b₀).records))) in
          by_this t d (Err f) room (sym c) (sym (ap (λ (k : Made). add_left k room (base_of t room len b₀) W) c))

  -- it fits as the book stands
  pub added_behind : len + length W ≤ length room → (r : Made) (room' : List ℕ) → Placed (fault m.floor) room len W r room' → AddedAs fault new room len r room'
  added_behind k r room' p =
      let c : placed (fault m.floor) (length room) len W ≡ add_placed fault room (base_of false room len b₀) W =
      (λ i. placed (fault (x.floor i)) (length room) (sym (length-take-le len room fits) i) W) in
      by_this false (le-ltb (length room) (len + length W) k) r room' (p.answer ∙ c)
      (p.leaves ∙ same (placed (fault m.floor) (length room) len W) ∙ ap (λ (y : Made). add_left y room (base_of false room len b₀) W) c)
    where
      same : (y : Made) → left y room len W ≡ add_left y room (base_of false room len b₀) W
      same (Ok n) = sym (sets_same room W len fits)
      same (Err f) = refl

  -- it does not: behind the live entries
  module _ (k : length room < len + length W) where
    up_is : placed (fault m.least) (length room) (at + m.size) W ≡ add_placed fault room (base_of true room len b₀) W
    up_is = λ i. placed (fault (x.least i)) (length room) (sym x.base i) W

    pub added_not_up : (f : Fault) → Placed (fault m.least) room (at + m.size) W (Err f) room → AddedAs fault new room len (Err f) room
    added_not_up f p =
        let c : add_placed fault room (base_of true room len b₀) W ≡ Err f = sym up_is ∙ sym p.answer in
        by_this true (lt-ltb (length room) (len + length W) k) (Err f) room (sym c) (sym (ap (λ (y : Made). add_left y room (base_of true room len b₀) W) c))

    pub added_up : fault m.least ≡ None → at + m.size + length W ≤ length room → (j : ℕ) (mid : List ℕ) → Put room at (live_of h.format (entries_in h.format room len at)) j mid
        → (r : ℕ) (room' : List ℕ) → Put mid (at + m.size) W r room' → AddedAs fault new room len (Ok r) room'
    unfolding written live_bytes
    added_up z l j mid p r room' q =
        let v : List ℕ = live_bytes h.format x.es in
        let w : List ℕ = header_bytes h in
        let a : placed (fault m.least) (length room) (at + m.size) W ≡ Ok (at + m.size + length W) = rw (z, le-ltb (length room) (at + m.size + length W) l) in
        let c : add_placed fault room (base_of true room len b₀) W ≡ Ok r = sym up_is ∙ a ∙ ap (λ (k : ℕ). Ok k) (sym q.next) in
        let e : mid ≡ sets room at v = p.leaves ∙ ap (sets room at) x.lives in
        let u : at + m.size ≡ at + length v = ap (λ (i : ℕ). at + i) x.size in
        let g : room' ≡ sets room 0 ((w ++ v) ++ W) =
        q.leaves ∙ (λ i. sets (e i) (u i) W) ∙ sets_append v room W at ∙ sym (sets_same room (v ++ W) at (omega (arith, x.low, fits)))
        ∙ ap (λ (y : List ℕ). sets room 0 (y ++ (v ++ W))) x.front ∙ ap (sets room 0) (sym (append_assoc w v W)) in
        by_this true (lt-ltb (length room) (len + length W) k) (Ok r) room' (sym c) (g ∙ sym (ap (λ (y : Made). add_left y room (base_of true room len b₀) W) c))

-- ---- the same entry and faults under other names
module _ (fault fault' : ℕ → Option Fault) (new new' : Header → List ℕ) (room : List ℕ) (len : ℕ) (whole : Whole) (stands : Stands room len whole) (bs : Bytes room) where
  pub added_same : ((floor : ℕ) → fault floor ≡ fault' floor) → new whole.header ≡ new' whole.header → (r : Made) (room' : List ℕ) → AddedAs fault new room len r room' → AddedAs fault' new' room len r room'
  added_same e d r room' p =
      let x = standing room len whole stands bs in
      let b : Book = record { header = whole.header; records = x.es } in
      record {
        answer =
            p.answer ∙ ap (add_answer fault new room len) x.is ∙ (λ i. add_placed (λ floor. e floor i) room (add_base room len b (d i)) (d i)) ∙ sym (ap (add_answer fault' new' room len) x.is);
        leaves =
            p.leaves ∙ ap (add_leaves fault new room len) x.is
            ∙ (λ i. add_left (add_placed (λ floor. e floor i) room (add_base room len b (d i)) (d i)) room (add_base room len b (d i)) (d i)) ∙ sym (ap (add_leaves fault' new' room len) x.is);
      }

-- ---- what was not read
pub added_unread : (fault : ℕ → Option Fault) (new : Header → List ℕ) (room : List ℕ) (len : ℕ) (f : Fault) → read_in_by (formats 1) room len ≡ bad f → AddedAs fault new room len (Err f) room
added_unread fault new room len f e = record { answer = sym (ap (add_answer fault new room len) e); leaves = sym (ap (add_leaves fault new room len) e) }

-- ---- a record whose codes are made
module _ (v : NewRecord) (room : List ℕ) (len : ℕ) (whole : Whole) (stands : Stands room len whole) (bs : Bytes room) where
  abbrev fault : ℕ → Option Fault
  fault floor = station_fault floor v.station

  abbrev new : Header → List ℕ
  new h = entry_bytes h.format (new_entry v)

  -- it fits as the book stands
  pub coded_behind : len + length (entry_bytes whole.header.format (new_entry v)) ≤ length room → (r : Made) (room' : List ℕ)
      → Placed (station_fault (floor_where (leb (len + length (entry_bytes whole.header.format (new_entry v))) (length room)) whole.header.format whole.measure.floor) v.station) room len (entry_bytes whole.header.format (new_entry v)) r room'
      → CodedAdded room len v r room'
  coded_behind k r room' p =
      let w : List ℕ = new whole.header in
      added_behind fault new room len whole stands bs k r room'
      (subst (λ (t : Bool). Placed (fault (floor_where t whole.header.format whole.measure.floor)) room len w r room') (le-leb (len + length w) (length room) k) p)

  -- it does not
  module _ (k : length room < len + length (entry_bytes whole.header.format (new_entry v))) where
    module _ (n : ℕ) (e : Ok n ≡ unless (station_fault whole.measure.least v.station) v.station) where
      pub coded_short : length room < whole.first + whole.measure.size + length (entry_bytes whole.header.format (new_entry v)) → CodedAdded room len v (Err NoRoom) room
      coded_short h = added_not_up fault new room len whole stands bs k NoRoom (placed_short room (whole.first + whole.measure.size) (new whole.header) (fault whole.measure.least) (unless_ok (fault whole.measure.least) v.station n e) h)

      pub coded_up : whole.first + whole.measure.size + length (entry_bytes whole.header.format (new_entry v)) ≤ length room → (j : ℕ) (mid : List ℕ)
          → Put room whole.first (live_of whole.header.format (entries_in whole.header.format room len whole.first)) j mid → (r : ℕ) (room' : List ℕ)
          → Put mid (whole.first + whole.measure.size) (entry_bytes whole.header.format (new_entry v)) r room' → CodedAdded room len v (Ok r) room'
      coded_up h = added_up fault new room len whole stands bs k (sym (unless_ok (fault whole.measure.least) v.station n e)) h
