-- What the writer makes reads back: an accepted start leaves the book of no records, an accepted addition the book of the records that stay
-- and the new one.
use Prim.Native.Nat.{ℕ, ◌+◌, ◌^◌, ◌≤◌}
use mathlib.Core.Path.{◌≡◌, refl, sym, ap, ◌∙◌}
use mathlib.Core.Bool.{Bool, true, false, cond}
use mathlib.Core.List.{List, [], ◌∷◌, ◌++◌, append_assoc, append-nil}
use native.Mathlib.Omega.{arith}
use borrow.Author.Tests.{le-ltb, ltb-true}
use lib.Dec.{ltb, eqb}
use lib.ListN.{length, take, drop, length-append}
use lib.Seq.{sets, sets-eq, take_at}
use Rattle.number.specs.Septets.{Bytes}
use Rattle.chosen.specs.declared.Choice.TheVariants.{Primary, Alternate}
use Rattle.terms.specs.Limits.{word_limit}
use Rattle.terms.specs.Editions.{edition_of}
use Rattle.fields.specs.Got.{Got, good, bad, write_all}
use Rattle.fields.proofs.Forms.{none_in}
use Rattle.fields.proofs.All as all
use Rattle.header.specs.declared.Header.{Header}
use Rattle.entry.specs.Entry.{Entry, entry_bytes, above}
use Rattle.book.specs.Book.{Book, written, read_book, floor_of}
use Rattle.header.specs.Head.{header_bytes, formats, limit_of}
use Rattle.header.proofs.Head.{FineHeader}
use Rattle.entry.proofs.Entry.{FineRecord, FineKind, unspelt, spelt, FineEntry}
use Rattle.book.proofs.Book.{FineEntries, reads_back, OneBook, one_book}
use Rattle.std.specs.Prelude.{Option, Some, None, Ok}
use Rattle.terms.specs.declared.Fault.{Fault}
use Rattle.terms.specs.declared.Fault.TheVariants.{BadNumber}
use Rattle.starting.specs.New.{cut_fault, new_header}
use Rattle.putting.specs.Laid.{left, Placed, Made}
use Rattle.keying.specs.Keyed.{code_under, keyed, keyed_entry, new_bytes, new_fault}
use Rattle.book.specs.Room.{read_in}
use Rattle.keying.proofs.Keyed.{never, no_length, Laid, was_laid, Sound, sound}
use Rattle.keying.proofs.Named.{code_fits}
use Rattle.book.proofs.Room.{Lies, lies}
use Rattle.fields.proofs.Law.{bytes_take}
use Rattle.fitting.specs.Base.{Base, base_of, add_base, add_placed, add_left, add_answer, add_leaves}
use Rattle.adding.specs.Adding.{Added}
use Rattle.book_laws.proofs.Good.{clean}
use Rattle.book_laws.proofs.Live.{live_fines}

-- ---- one record more
written_more : (h : Header) (es : List Entry) (e : Entry) → written h (es ++ e ∷ []) ≡ written h es ++ entry_bytes h.format e
unfolding written
written_more h es e = ap (λ (l : List ℕ). header_bytes h ++ l) (go es) ∙ sym (append_assoc (header_bytes h) (write_all (entry_bytes h.format) es) (entry_bytes h.format e))
  where
    go : (es : List Entry) → write_all (entry_bytes h.format) (es ++ e ∷ []) ≡ write_all (entry_bytes h.format) es ++ entry_bytes h.format e
    go [] = append-nil (entry_bytes h.format e)
    go (x ∷ es) = ap (λ (l : List ℕ). entry_bytes h.format x ++ l) (go es) ∙ sym (append_assoc (entry_bytes h.format x) (write_all (entry_bytes h.format) es) (entry_bytes h.format e))

fine_more : (format floor : ℕ) (es : List Entry) (e : Entry) → FineEntries format floor es → FineEntry format (floor_of floor es) e → FineEntries format floor (es ++ e ∷ [])
fine_more format floor [] e all.none x = all.more x all.none
fine_more format floor (y ∷ es) e (all.more z zs) x = all.more z (fine_more format (above y) es e zs x)

live_kind : (format : ℕ) → FineKind format 1
live_kind format = go (eqb format 1) refl
  where
    go : (t : Bool) → eqb format 1 ≡ t → FineKind format 1
    go true e = unspelt e refl
    go false e = spelt e (record { small = omega arith; judged = refl })

-- a new record without fault is fine
pub fine_keyed : (h : Header) (floor station : ℕ) (name : List ℕ) → Sound floor station name → FineRecord floor (keyed h station name)
unfolding keyed
fine_keyed h floor station name x =
    let ed = edition_of h.edition in
    let l = limit_of h.cut in
    record {
      front = record { small = x.small; judged = rw (le-ltb station floor x.rises) };
      behind = record {
        front = record { long = record { small = omega (arith, x.short); judged = rw (le-ltb word_limit (length name) x.short) }; clean = clean name x.ascii };
        behind = record {
          front = record { long = record { small = omega (arith, code_fits ed l Primary name x.short); judged = refl }; clean = none_in (code_under h Primary name) };
          behind = record { long = record { small = omega (arith, code_fits ed l Alternate name x.short); judged = refl }; clean = none_in (code_under h Alternate name) };
        };
      };
    }

front_of_lem : (room x : List ℕ) → length x ≤ length room → take (length x) (sets room 0 x) ≡ x
front_of_lem room x h = ap (take (length x)) (sets-eq x room 0 (omega arith)) ∙ take_at x (drop (0 + length x) room) (length x) refl

-- ---- STARTING: an accepted start leaves the book of no records
pub start_reads : (cut : ℕ) (room : List ℕ) (m : ℕ) (room' : List ℕ) → Placed (cut_fault cut) room 0 (header_bytes (new_header cut)) (Ok m) room'
    → read_book (take m room') ≡ good (record { header = new_header cut; records = [] }) m
unfolding written
start_reads cut room m room' x =
    let w : List ℕ = header_bytes (new_header cut) in
    let y : Laid (cut_fault cut) (length room) 0 w m = was_laid (cut_fault cut) (length room) 0 w m (sym x.answer) in
    let z : length w ≡ m = omega (arith, y.long) in
    let d : room' ≡ sets room 0 w = x.leaves ∙ ap (λ (j : Made). left j room 0 w) (sym x.answer) in
    let b : take m room' ≡ written (new_header cut) [] = (λ i. take (sym z i) (d i)) ∙ front_of_lem room w (omega (arith, y.fits)) ∙ sym (append-nil w) in
    let k : length (written (new_header cut) []) ≡ m = omega (arith, y.long, length-append w []) in
    ap read_book b ∙ reads_back (formats 1) (new_header cut) [] (fine cut y.none) all.none ∙ ap (good (record { header = new_header cut; records = [] })) k
  where
    fine : (cut : ℕ) → cut_fault cut ≡ None → FineHeader (formats 1) (new_header cut)
    fine cut e = go (ltb cut (2 ^ 28)) refl e
      where
        go : (t : Bool) → ltb cut (2 ^ 28) ≡ t → cond t None (Some BadNumber) ≡ None → FineHeader (formats 1) (new_header cut)
        go false d e = never e
        go true d e = record {
          front = record { small = omega arith; judged = refl };
          behind = record { front = record { small = omega arith; judged = refl }; behind = record { small = ltb-true _ _ d; judged = refl } };
        }

-- the base is a book, and its records are fine
pub record FineBase (h : Header) (b : Base) : Type 0 where
  pub bytes : b.front ≡ written h b.records
  pub fine : FineEntries h.format 0 b.records

fine_base : (room : List ℕ) (len : ℕ) (b : Book) (n : ℕ) → OneBook (formats 1) (take len room) b n → (t : Bool) → FineBase b.header (base_of t room len b)
fine_base room len b n o false = record { bytes = o.bytes; fine = o.records }
fine_base room len b n o true = record { bytes = refl; fine = live_fines b.header.format 0 0 (omega arith) b.records o.records }

-- ---- ADDING: an accepted addition leaves the book of the records that stay (all of them where the new one fits as the book stands, else the
-- live ones) and the new one
pub record Grown (room : List ℕ) (len station : ℕ) (name : List ℕ) (m : ℕ) (room' : List ℕ) : Type 0 where
  pub b : Book
  pub n : ℕ
  pub before : read_in room len ≡ good b n
  pub after : read_book (take m room') ≡ good (record { header = b.header; records = (add_base room len b (new_bytes b.header station name)).records ++ keyed_entry b.header station name ∷ [] }) m

pub add_reads : (room : List ℕ) → Bytes room → (len station : ℕ) (name : List ℕ) (m : ℕ) (room' : List ℕ) → Added room len station name (Ok m) room' → Grown room len station name m room'
unfolding new_bytes
add_reads room bs len station name m room' y = go (read_in room len) refl y.answer y.leaves
  where
    fault : ℕ → Option Fault
    fault floor = new_fault floor station name

    new : Header → List ℕ
    new h = new_bytes h station name

    on : (b : Book) (n : ℕ) → read_in room len ≡ good b n → (base : Base) → FineBase b.header base → FineHeader (formats 1) b.header
        → Ok m ≡ add_placed (λ floor. new_fault floor station name) room base (new_bytes b.header station name)
        → room' ≡ add_left (add_placed (λ floor. new_fault floor station name) room base (new_bytes b.header station name)) room base (new_bytes b.header station name)
        → read_book (take m room') ≡ good (record { header = b.header; records = base.records ++ keyed_entry b.header station name ∷ [] }) m
    on b n e base f fh p q =
        let h : Header = b.header in
        let k : Entry = keyed_entry h station name in
        let w : List ℕ = entry_bytes h.format k in
        let l : Laid (new_fault (floor_of 0 base.records) station name) (length room) (length base.front) w m =
        was_laid (new_fault (floor_of 0 base.records) station name) (length room) (length base.front) w m (sym p) in
        let x : base.front ++ w ≡ written h (base.records ++ k ∷ []) = ap (λ (j : List ℕ). j ++ w) f.bytes ∙ sym (written_more h base.records k) in
        let z : length (base.front ++ w) ≡ m = length-append base.front w ∙ l.long in
        let d : room' ≡ sets room 0 (base.front ++ w) = q ∙ ap (λ (j : Made). add_left j room base w) (sym p) in
        let c : take m room' ≡ base.front ++ w = (λ i. take (sym z i) (d i)) ∙ front_of_lem room (base.front ++ w) (omega (arith, z, l.fits, l.long)) in
        ap (read_book) (c ∙ x)
        ∙ reads_back (formats 1) h (base.records ++ k ∷ []) fh
        (fine_more h.format 0 base.records k f.fine (record { front = live_kind h.format; behind = fine_keyed h (floor_of 0 base.records) station name (sound (floor_of 0 base.records) station name l.none) }))
        ∙ ap (good (record { header = h; records = base.records ++ k ∷ [] })) (ap length (sym x) ∙ z)

    go : (x : Got Book) → read_in room len ≡ x → Ok m ≡ add_answer (λ floor. new_fault floor station name) (λ h. new_bytes h station name) room len x
        → room' ≡ add_leaves (λ floor. new_fault floor station name) (λ h. new_bytes h station name) room len x → Grown room len station name m room'
    go (bad f) e p q = no_length (sym p)
    go (good b n) e p q =
        let s : Lies (formats 1) room len b n = lies (formats 1) room len b n e in
        let o : OneBook (formats 1) (take len room) b n = one_book (formats 1) (take len room) (bytes_take len room bs) b n s.reads in
        record {
          b = b;
          n = n;
          before = e;
          after = on b n e (add_base room len b (new_bytes b.header station name)) (fine_base room len b n o (ltb (length room) (len + length (new_bytes b.header station name)))) o.header p q;
        }
