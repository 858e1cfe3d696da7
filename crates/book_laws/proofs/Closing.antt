-- Closing a station: one byte changes, and the book reads as before but for that record's kind; when it is refused.
use Prim.Native.Nat.{ℕ, ◌+◌, ◌<◌}
use mathlib.Core.Path.{◌≡◌, refl, sym, ap, ◌∙◌}
use mathlib.Core.Bool.{Bool, true, false, cond, ◌&&◌, ◌||◌}
use mathlib.Core.List.{List, [], ◌∷◌, ◌++◌, append_assoc}
use native.Mathlib.Omega.{arith}
use borrow.Author.Tests.{eqb-true, ne_eqb, le-ltb}
use lib.Dec.{eqb}
use lib.ListN.{length, take, get_or, set, length-append, length-set}
use lib.Seq.{set_at, get_or_at, get_or-set_other, get_or-take, length-take-le, take-set-lt}
use Rattle.number.specs.Septets.{Bytes}
use Rattle.fields.specs.Got.{Got, good, bad, write_all}
use Rattle.fields.specs.Field.{number}
use Rattle.fields.proofs.Law.{never, same, bytes_take}
use Rattle.fields.proofs.All as all
use Rattle.header.specs.declared.Header.{Header}
use Rattle.entry.specs.Entry.{Entry, record_bytes, kind_bytes, entry_bytes, above, is_live}
use Rattle.book.specs.Book.{Book, written, read_book_by}
use Rattle.header.specs.Head.{header_bytes, formats}
use Rattle.terms.specs.Editions.{last_format}
use Rattle.entry.proofs.Entry.{spelt, FineEntry}
use Rattle.book.proofs.Book.{FineEntries, reads_back, OneBook, one_book}
use Rattle.header.proofs.Head.{FineHeader, known_good}
use Rattle.std.specs.Prelude.{Option, Ok, Err}
use Rattle.terms.specs.declared.Fault.{Fault}
use Rattle.terms.specs.declared.Fault.TheVariants.{NoLive}
use Rattle.putting.specs.Laid.{Made}
use Rattle.keying.proofs.Keyed.{no_length}
use Rattle.book.specs.Room.{read_in_by, read_in}
use Rattle.book.proofs.Room.{Lies, lies}
use Rattle.finding.specs.Finding.{meant, place_of, kind_place}
use Rattle.closing.specs.Closed.{closed, closed_in, close_answer, close_leaves, Closed}
use Rattle.book_laws.specs.Closing.{has_live}
use Rattle.book_laws.proofs.Good.{not_below, is_known}

-- ---- one byte is the kind
one_kind : (format : ℕ) → eqb format 1 ≡ false → (kind_bytes format 1 ≡ 1 ∷ []) × (kind_bytes format 0 ≡ 0 ∷ [])
unfolding kind_bytes number
one_kind format e = (rw e, rw e)

module _ (format : ℕ) (two : eqb format 1 ≡ false) (e : Entry) where
  live_bytes_lem : e.kind ≡ 1 → entry_bytes format e ≡ 1 ∷ record_bytes e.body
  unfolding entry_bytes
  live_bytes_lem k = ap (λ (j : ℕ). kind_bytes format j ++ record_bytes e.body) k ∙ ap (λ (l : List ℕ). l ++ record_bytes e.body) (one_kind format two).0

  closed_bytes : entry_bytes format (closed e) ≡ 0 ∷ record_bytes e.body
  unfolding entry_bytes
  closed_bytes = ap (λ (l : List ℕ). l ++ record_bytes e.body) (one_kind format two).1

  closed_fine : (floor : ℕ) → FineEntry format floor e → FineEntry format floor (closed e)
  closed_fine floor x = record { front = spelt two (record { small = omega arith; judged = refl }); behind = x.behind }

is_live_lem : (station : ℕ) (e : Entry) → meant station e ≡ true → e.kind ≡ 1
is_live_lem station e p = go (is_live e) refl p
  where
    go : (t : Bool) → is_live e ≡ t → t && eqb e.body.station station ≡ true → e.kind ≡ 1
    go true d q = eqb-true e.kind 1 d
    go false d q = let z : ◌≡◌ {A = Bool} true false = sym q in absurd (let y : ◌≡◌ {A = ℕ} 0 1 = cc in omega arith)

-- ---- a close, on the bytes and on the entries
pub record OneByte (l : List ℕ) (p : ℕ) (l' : List ℕ) : Type 0 where
  pub inside : p < length l
  pub was : get_or l p 0 ≡ 1
  pub left : set l p 0 ≡ l'

module _ (format : ℕ) (two : eqb format 1 ≡ false) (station : ℕ) where
  abbrev all_bytes : List Entry → List ℕ
  all_bytes = write_all (entry_bytes format)

  pub closes : (es : List Entry) (w : List ℕ) (at : ℕ) → at ≡ length w → (p n : ℕ) → place_of format station at es ≡ good p n
      → OneByte (w ++ all_bytes es) p (w ++ all_bytes (closed_in station es))
  closes [] w at a p n e = never e
  closes (e ∷ es) w at a p n q = go (λ c i h. closes es (w ++ entry_bytes format e) c i p n h) (meant station e) refl q
    where
      b : List ℕ
      b = entry_bytes format e

      go : ((c : ℕ) → c ≡ length (w ++ b) → place_of format station c es ≡ good p n → OneByte ((w ++ b) ++ all_bytes es) p ((w ++ b) ++ all_bytes (closed_in station es)))
          → (t : Bool) → meant station e ≡ t → cond t (good at 1) (place_of format station (at + length b) es) ≡ good p n
          → OneByte (w ++ (b ++ all_bytes es)) p (w ++ all_bytes (cond t (closed e ∷ es) (e ∷ closed_in station es)))
      go ih true d h =
          let r : List ℕ = record_bytes e.body ++ all_bytes es in
          let k : p ≡ length w = sym (same h) ∙ a in
          let x : w ++ (b ++ all_bytes es) ≡ w ++ 1 ∷ r = ap (λ (l : List ℕ). w ++ (l ++ all_bytes es)) (live_bytes_lem format two e (is_live_lem station e d)) in
          let y : w ++ (entry_bytes format (closed e) ++ all_bytes es) ≡ w ++ 0 ∷ r = ap (λ (l : List ℕ). w ++ (l ++ all_bytes es)) (closed_bytes format two e) in
          record {
            inside = omega (arith, ap length x, length-append w (1 ∷ r), k);
            was = ap (λ (l : List ℕ). get_or l p 0) x ∙ get_or_at w 1 r 0 p (sym k);
            left = ap (λ (l : List ℕ). set l p 0) x ∙ set_at w 1 r 0 p (sym k) ∙ sym y;
          }
      go ih false d h =
          let i : OneByte ((w ++ b) ++ all_bytes es) p ((w ++ b) ++ all_bytes (closed_in station es)) =
          ih (at + length b) (omega (arith, a, length-append w b)) h in
          let x : (w ++ b) ++ all_bytes es ≡ w ++ (b ++ all_bytes es) = append_assoc w b (all_bytes es) in
          record {
            inside = omega (arith, i.inside, ap length x);
            was = ap (λ (l : List ℕ). get_or l p 0) (sym x) ∙ i.was;
            left = ap (λ (l : List ℕ). set l p 0) (sym x) ∙ i.left ∙ append_assoc w b (all_bytes (closed_in station es));
          }

  pub closed_fines : (floor : ℕ) (es : List Entry) → FineEntries format floor es → FineEntries format floor (closed_in station es)
  closed_fines floor [] all.none = all.none
  closed_fines floor (e ∷ es) (all.more x xs) = go (closed_fines (above e) es xs) (meant station e)
    where
      go : FineEntries format (above e) (closed_in station es) → (t : Bool) → FineEntries format floor (cond t (closed e ∷ es) (e ∷ closed_in station es))
      go ih true = all.more (closed_fine format two e floor x) xs
      go ih false = all.more x ih

-- ---- CLOSING: one byte changes, from 1 to 0, and the book reads as before but for that entry's kind
pub record CloseReads (judge : ℕ → Option Fault) (l : List ℕ) (b : Book) (station p : ℕ) : Type 0 where
  pub inside : p < length l
  pub was : get_or l p 0 ≡ 1
  pub others : (j : ℕ) → (j ≡ p → ⊥) → get_or (set l p 0) j 0 ≡ get_or l j 0
  pub reads : read_book_by judge (set l p 0) ≡ good (record { header = b.header; records = closed_in station b.records }) (length (set l p 0))

pub close_reads : (judge : ℕ → Option Fault) (l : List ℕ) → Bytes l → (b : Book) (n : ℕ) → read_book_by judge l ≡ good b n → eqb b.header.format 1 ≡ false
    → (station p m : ℕ) → kind_place station (good b n) ≡ good p m → CloseReads judge l b station p
unfolding written
close_reads judge l bs b n e two station p m q =
    let h : Header = b.header in
    let o : OneBook judge l b n = one_book judge l bs b n e in
    let x = closes h.format two station b.records (header_bytes h) (length (header_bytes h)) refl p m q in
    let s : set l p 0 ≡ written h (closed_in station b.records) = ap (λ (k : List ℕ). set k p 0) o.bytes ∙ x.left in
    record {
      inside = omega (arith, x.inside, ap length o.bytes);
      was = ap (λ (k : List ℕ). get_or k p 0) o.bytes ∙ x.was;
      others = λ j z. get_or-set_other l p j 0 0 z;
      reads =
          ap (read_book_by judge) s ∙ reads_back judge h (closed_in station b.records) o.header (closed_fines h.format two station 0 b.records o.records)
          ∙ ap (λ (k : List ℕ). good (record { header = h; records = closed_in station b.records }) (length k)) (sym s);
    }

-- ---- IN LENT ROOM: an accepted close
module _ (h : Header) (x : FineHeader (formats 2) h) where
  two_or_more : eqb h.format 1 ≡ false
  two_or_more = ne_eqb h.format 1 (λ e. let k = is_known 2 last_format h.format x.front.judged in omega (arith, k.0))

  any_format : FineHeader (formats 1) h
  any_format =
      let k = is_known 2 last_format h.format x.front.judged in
      record { front = record { small = x.front.small; judged = known_good 1 last_format h.format (omega (arith, k.0)) k.1 }; behind = x.behind }

-- what reads where a close reads it reads everywhere
pub also : (l : List ℕ) → Bytes l → (b : Book) (n : ℕ) → read_book_by (formats 2) l ≡ good b n → read_book_by (formats 1) l ≡ good b n
also l bs b n e =
    let o : OneBook (formats 2) l b n = one_book (formats 2) l bs b n e in
    ap (read_book_by (formats 1)) o.bytes ∙ reads_back (formats 1) b.header b.records (any_format b.header o.header) o.records
    ∙ ap (good b) (ap length (sym o.bytes) ∙ sym o.used)

pub record ClosedOne (room : List ℕ) (len station m : ℕ) (room' : List ℕ) : Type 0 where
  pub book : Book
  pub place : ℕ
  pub before : read_in room len ≡ good book len
  pub same : m ≡ len
  pub inside : place < len
  pub was : get_or room place 0 ≡ 1
  pub leaves : room' ≡ set room place 0
  pub others : (j : ℕ) → (j ≡ place → ⊥) → get_or room' j 0 ≡ get_or room j 0
  pub after : read_book_by (formats 2) (take len room') ≡ good (record { header = book.header; records = closed_in station book.records }) len

pub close_one : (room : List ℕ) → Bytes room → (len station m : ℕ) (room' : List ℕ) → Closed room len station (Ok m) room' → ClosedOne room len station m room'
unfolding read_in_by
close_one room bs len station m room' x = go (read_in_by (formats 2) room len) refl x.answer x.leaves
  where
    on : (b : Book) (n : ℕ) → read_in_by (formats 2) room len ≡ good b n → (y : Got ℕ) → kind_place station (good b n) ≡ y → Ok m ≡ close_answer len y → room' ≡ close_leaves room y → ClosedOne room len station m room'
    on b n e (bad f) d p q = no_length (sym p)
    on b n e (good k j) d p q =
        let s : Lies (formats 2) room len b n = lies (formats 2) room len b n e in
        let l : List ℕ = take len room in
        let o : OneBook (formats 2) l b n = one_book (formats 2) l (bytes_take len room bs) b n s.reads in
        let w : length l ≡ len = length-take-le len room s.fits in
        let c : CloseReads (formats 2) l b station k = close_reads (formats 2) l (bytes_take len room bs) b n s.reads (two_or_more b.header o.header) station k j d in
        let i : k < len = omega (arith, c.inside, w) in
        let t : take len room' ≡ set l k 0 = ap (take len) q ∙ take-set-lt len room k 0 i in
        let u : n ≡ len = o.used ∙ w in
        let mm : m ≡ len = cc in
        record {
          book = b;
          place = k;
          before = rw (le-ltb (length room) len s.fits) (also l (bytes_take len room bs) b n s.reads ∙ ap (good b) u);
          same = mm;
          inside = i;
          was = sym (get_or-take len room k 0 i) ∙ c.was;
          leaves = q;
          others = λ v z. ap (λ (r : List ℕ). get_or r v 0) q ∙ get_or-set_other room k v 0 0 z;
          after = ap (read_book_by (formats 2)) t ∙ c.reads ∙ ap (good (record { header = b.header; records = closed_in station b.records })) (length-set l k 0 ∙ w);
        }

    go : (y : Got Book) → read_in_by (formats 2) room len ≡ y → Ok m ≡ close_answer len (kind_place station y) → room' ≡ close_leaves room (kind_place station y) → ClosedOne room len station m room'
    go (bad f) e p q = no_length (sym p)
    go (good b n) e p q = on b n e (kind_place station (good b n)) refl p q

-- ---- WHEN: the fault that is read, 7 for a format 1 book among them; else 11 exactly where the station has no live record
place_when : (format station len at : ℕ) (es : List Entry) → close_answer len (place_of format station at es) ≡ cond (has_live station es) (Ok len) (Err NoLive)
place_when format station len at [] = refl
place_when format station len at (e ∷ es) = go (meant station e) (place_when format station len (at + length (entry_bytes format e)) es)
  where
    go : (t : Bool) → close_answer len (place_of format station (at + length (entry_bytes format e)) es) ≡ cond (has_live station es) (Ok len) (Err NoLive)
        → close_answer len (cond t (good at 1) (place_of format station (at + length (entry_bytes format e)) es)) ≡ cond (t || has_live station es) (Ok len) (Err NoLive)
    go true ih = refl
    go false ih = ih

module _ (room : List ℕ) (len station : ℕ) (r : Made) (room' : List ℕ) (x : Closed room len station r room') where
  pub close_when : (b : Book) (n : ℕ) → read_in_by (formats 2) room len ≡ good b n → r ≡ cond (has_live station b.records) (Ok len) (Err NoLive)
  close_when b n e = x.answer ∙ ap (λ (y : Got Book). close_answer len (kind_place station y)) e ∙ place_when b.header.format station len (length (header_bytes b.header)) b.records

  pub close_unread : (f : Fault) → read_in_by (formats 2) room len ≡ bad f → r ≡ Err f
  close_unread f e = x.answer ∙ ap (λ (y : Got Book). close_answer len (kind_place station y)) e

-- ---- AGAIN: a station that is closed has no live record, since stations rise
not_meant : (station : ℕ) (e : Entry) → station < e.body.station → meant station e ≡ false
not_meant station e h = ap (λ (t : Bool). is_live e && t) (ne_eqb e.body.station station (λ z. omega arith)) ∙ go (is_live e)
  where
    go : (t : Bool) → t && false ≡ false
    go true = refl
    go false = refl

none_above : (format floor station : ℕ) → station < floor → (es : List Entry) → FineEntries format floor es → has_live station es ≡ false
none_above format floor station h [] all.none = refl
none_above format floor station h (e ∷ es) (all.more x xs) =
    let k = not_below floor e.body.station x.behind.front.judged in
    ap (λ (t : Bool). t || has_live station es) (not_meant station e (omega arith)) ∙ none_above format (above e) station (omega arith) es xs

is_station : (station : ℕ) (e : Entry) → meant station e ≡ true → e.body.station ≡ station
is_station station e p = go (is_live e) p
  where
    go : (t : Bool) → t && eqb e.body.station station ≡ true → e.body.station ≡ station
    go true q = eqb-true e.body.station station q
    go false q = let z : ◌≡◌ {A = Bool} true false = sym q in absurd (let y : ◌≡◌ {A = ℕ} 0 1 = cc in omega arith)

closed_none : (format floor station : ℕ) (es : List Entry) → FineEntries format floor es → has_live station (closed_in station es) ≡ false
closed_none format floor station [] all.none = refl
closed_none format floor station (e ∷ es) (all.more x xs) = go (meant station e) refl (closed_none format (above e) station es xs)
  where
    go : (t : Bool) → meant station e ≡ t → has_live station (closed_in station es) ≡ false → has_live station (cond t (closed e ∷ es) (e ∷ closed_in station es)) ≡ false
    go true d ih = none_above format (above e) station (omega (arith, is_station station e d)) es xs
    go false d ih = ap (λ (t : Bool). t || has_live station (closed_in station es)) d ∙ ih

pub closed_again : (room : List ℕ) → Bytes room → (len station m : ℕ) (room' : List ℕ) → Closed room len station (Ok m) room'
    → (r : Made) (room'' : List ℕ) → Closed room' len station r room'' → r ≡ Err NoLive
unfolding read_in_by
closed_again room bs len station m room' x r room'' y =
    let c : ClosedOne room len station m room' = close_one room bs len station m room' x in
    let b : Book = c.book in
    let s : Lies (formats 1) room len b len = lies (formats 1) room len b len c.before in
    let o : OneBook (formats 1) (take len room) b len = one_book (formats 1) (take len room) (bytes_take len room bs) b len s.reads in
    let l : length room' ≡ length room = ap length c.leaves ∙ length-set room c.place 0 in
    let e : read_in_by (formats 2) room' len ≡ good (record { header = b.header; records = closed_in station b.records }) len =
    rw (le-ltb (length room') len (omega (arith, l, s.fits))) c.after in
    close_when room' len station r room'' y (record { header = b.header; records = closed_in station b.records }) len e
    ∙ ap (λ (t : Bool). cond t (Ok len) (Err NoLive)) (closed_none b.header.format 0 station b.records o.records)
