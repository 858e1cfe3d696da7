-- Going on from a known end, and adding: what the first answers is what the second does, but for `NoRoom`; and it ends at the end of the longer
-- book.
use Prim.Native.Nat.{ℕ, ◌+◌, ◌^◌, ◌≤◌, ◌<◌}
use mathlib.Core.Path.{◌≡◌, refl, sym, ap, subst, ◌∙◌}
use mathlib.Core.Bool.{Bool, true, false, cond}
use mathlib.Core.List.{List, [], ◌∷◌, ◌++◌}
use native.Mathlib.Omega.{arith}
use borrow.Author.Tests.{lt-ltb, le-ltb, le-leb, leb-true, leb-false}
use lib.Dec.{ltb, leb, eqb}
use lib.ListN.{length, take}
use lib.Seq.{length-take-le, length-sets}
use Rattle.number.specs.Septets.{Bytes}
use Rattle.terms.specs.Limits.{word_limit}
use Rattle.ascii.specs.High.{first_high}
use Rattle.fields.specs.Got.{Got, good}
use Rattle.fields.proofs.Law.{same, bytes_take}
use Rattle.header.specs.declared.Header.{Header}
use Rattle.book.specs.declared.Measure.{Measure}
use Rattle.book.specs.declared.Whole.{Whole}
use Rattle.entry.specs.Entry.{Entry, above}
use Rattle.book.specs.Book.{Book, read_book, floor_of}
use Rattle.header.specs.Head.{formats}
use Rattle.book.specs.Told.{whole_by}
use Rattle.book.proofs.Book.{OneBook, one_book}
use Rattle.book.proofs.Opening.{whole_told}
use Rattle.book.specs.declared.End.{End}
use Rattle.std.specs.Prelude.{Option, Some, None, Ok, Err}
use Rattle.terms.specs.declared.Fault.{Fault}
use Rattle.terms.specs.declared.Fault.TheVariants.{TooLong, NotAscii, BadNumber, NotAbove, NoRoom}
use Rattle.fields.specs.Field.{first}
use Rattle.putting.specs.Laid.{placed, left, Made}
use Rattle.keying.specs.Keyed.{keyed, keyed_entry, new_bytes, new_fault}
use Rattle.book.specs.Room.{read_in_by, read_in}
use Rattle.appending.specs.Ended.{Ended, end_of, GoodEnd, floor_at, placed_at, behind, Appended, length_of}
use Rattle.placing.specs.Placing.{floor_where}
use Rattle.keying.proofs.Keyed.{never, no_length, Laid, was_laid}
use Rattle.book.proofs.Room.{Lies, lies}
use Rattle.appending.proofs.Ends.{no_end_fault, placed_on}
use Rattle.fitting.specs.Base.{base_of, add_base, add_placed, add_left}
use Rattle.adding.specs.Adding.{Added}
use Rattle.fitting.proofs.Base.{sets_same, by_base}
use Rattle.book_laws.proofs.Live.{add_one_base}
use Rattle.book_laws.proofs.Grows.{Grown, add_reads}

-- ---- the faults of a new record
module _ (station : ℕ) (name : List ℕ) where
  not_nine : (floor : ℕ) → new_fault floor station name ≡ Some NoRoom → ⊥
  not_nine floor e = go (ltb word_limit (length name)) (ltb (first_high name) (length name)) (ltb station (2 ^ 28)) (ltb station floor) e
    where
      go : (p q r s : Bool) → first (cond p (Some TooLong) (cond q (Some NotAscii) None)) (cond r (cond s (Some NotAbove) None) (Some BadNumber)) ≡ Some NoRoom → ⊥
      go true q r s e = let z : ◌≡◌ {A = ℕ} 0 1 = cc in omega arith
      go false true r s e = let z : ◌≡◌ {A = ℕ} 0 1 = cc in omega arith
      go false false false s e = let z : ◌≡◌ {A = ℕ} 0 1 = cc in omega arith
      go false false true true e = let z : ◌≡◌ {A = ℕ} 0 1 = cc in omega arith
      go false false true false e = never (sym e)

  -- one that is met under no floor is met under each
  any_floor : (f : Fault) → new_fault 0 station name ≡ Some f → (floor : ℕ) → new_fault floor station name ≡ Some f
  any_floor f e floor = go (ltb word_limit (length name)) (ltb (first_high name) (length name)) (ltb station (2 ^ 28)) (ltb station 0) (le-ltb station 0 (omega arith)) (ltb station floor) e
    where
      go : (p q r s : Bool) → s ≡ false → (t : Bool) → first (cond p (Some TooLong) (cond q (Some NotAscii) None)) (cond r (cond s (Some NotAbove) None) (Some BadNumber)) ≡ Some f
          → first (cond p (Some TooLong) (cond q (Some NotAscii) None)) (cond r (cond t (Some NotAbove) None) (Some BadNumber)) ≡ Some f
      go true q r s d t e = e
      go false true r s d t e = e
      go false false false s d t e = e
      go false false true true d t e = let y : ◌≡◌ {A = ℕ} 0 1 = cc in absurd (omega arith)
      go false false true false d t e = never (sym e)

length_behind : (e : End) (station : ℕ) (m : Made) → length_of (behind e station m) ≡ m
length_behind e station (Ok n) = refl
length_behind e station (Err f) = refl

nine_behind : (e : End) (station : ℕ) (m : Made) → behind e station m ≡ Err NoRoom → m ≡ Err NoRoom
nine_behind e station (Ok n) d = let z : ◌≡◌ {A = ℕ} 0 1 = cc in absurd (omega arith)
nine_behind e station (Err f) d = let z : f ≡ NoRoom = cc in ap (λ (k : Fault). Err k) z

-- ---- GOING ON IS ADDING, but for `NoRoom`: then the record does not fit behind the end, and nothing has changed
pub record GoneOn (room : List ℕ) (e : End) (station : ℕ) (name : List ℕ) (r : Ended) (room' : List ℕ) : Type 0 where
  pub adds : (r ≡ Err NoRoom → ⊥) → Added room e.len station name (length_of r) room'
  pub short : r ≡ Err NoRoom → length room < e.len + length (new_bytes e.header station name)
  pub kept : r ≡ Err NoRoom → room' ≡ room

module _ (room : List ℕ) (bs : Bytes room) (station : ℕ) (name : List ℕ) (len : ℕ) (b : Book) (n : ℕ) (e : read_in room len ≡ good b n) where
  abbrev w : List ℕ
  w = new_bytes b.header station name

  abbrev fault : ℕ → Option Fault
  fault floor = new_fault floor station name

  abbrev new : Header → List ℕ
  new h = new_bytes h station name

  abbrev end : End
  end = end_of b len

  abbrev floor : ℕ
  floor = floor_of 0 b.records

  there : Lies (formats 1) room len b n
  there = lies (formats 1) room len b n e

  by_this : (t : Bool) → ltb (length room) (len + length w) ≡ t → (m : Made) (room' : List ℕ) → m ≡ add_placed fault room (base_of t room len b) w
      → room' ≡ add_left (add_placed fault room (base_of t room len b) w) room (base_of t room len b) w → Added room len station name m room'
  by_this = by_base fault new room len b n e

  -- where it fits behind the end
  fits_is : len + length w ≤ length room → placed_at room end station name ≡ add_placed fault room (base_of false room len b) w
  fits_is k =
      placed_on room end station name (no_end_fault room len b n e)
      ∙ (λ i. placed (fault (floor_where (le-leb (len + length w) (length room) k i) b.header.format floor)) (length room) (sym (length-take-le len room there.fits) i) w)

  left_same : (m : Made) → left m room len w ≡ add_left m room (base_of false room len b) w
  left_same (Ok j) = sym (sets_same room w len there.fits)
  left_same (Err f) = refl

  fits_adds : len + length w ≤ length room → (r : Ended) (room' : List ℕ) → Appended room end station name r room' → Added room len station name (length_of r) room'
  fits_adds k r room' x =
      by_this false (le-ltb (length room) (len + length w) k) (length_of r) room' (ap length_of x.answer ∙ length_behind end station (placed_at room end station name) ∙ fits_is k)
      (x.leaves ∙ left_same (placed_at room end station name) ∙ ap (λ (m : Made). add_left m room (base_of false room len b) w) (fits_is k))

  -- where it does not, a fault before that of the room
  refused : (f : Fault) → (t : Bool) → ltb (length room) (len + length w) ≡ t → fault (floor_of 0 (base_of t room len b).records) ≡ Some f → Added room len station name (Err f) room
  refused f t d g =
      let c : add_placed fault room (base_of t room len b) w ≡ Err f = ap (λ (k : Option Fault). placed k (length room) (length (base_of t room len b).front) w) g in
      by_this t d (Err f) room (sym c) (sym (ap (λ (m : Made). add_left m room (base_of t room len b) w) c))

  short_fault : length room < len + length w → (f : Fault) → fault (floor_where false b.header.format floor) ≡ Some f → Added room len station name (Err f) room
  short_fault k f g = go (eqb b.header.format 1) refl g
    where
      go : (t : Bool) → eqb b.header.format 1 ≡ t → fault (cond t floor 0) ≡ Some f → Added room len station name (Err f) room
      go true d h =
          let o : OneBook (formats 1) (take len room) b n = one_book (formats 1) (take len room) (bytes_take len room bs) b n there.reads in
          refused f true (lt-ltb (length room) (len + length w) k) (ap (λ x. fault (floor_of 0 x.records)) (add_one_base room len b n o d) ∙ h)
      go false d h = refused f true (lt-ltb (length room) (len + length w) k) (any_floor station name f h (floor_of 0 (base_of true room len b).records))

  gone : (r : Ended) (room' : List ℕ) → Appended room end station name r room' → GoneOn room end station name r room'
  gone r room' x = go (leb (len + length w) (length room)) refl
    where
      on : placed_at room end station name ≡ placed (fault (floor_at room end w)) (length room) len w
      on = placed_on room end station name (no_end_fault room len b n e)

      -- an answer that is 9 is the placing's
      nine : r ≡ Err NoRoom → placed_at room end station name ≡ Err NoRoom
      nine c = nine_behind end station (placed_at room end station name) (sym x.answer ∙ c)

      keeps : r ≡ Err NoRoom → room' ≡ room
      keeps c = x.leaves ∙ ap (λ (m : Made). left m room len w) (nine c)

      fits_never : len + length w ≤ length room → r ≡ Err NoRoom → ⊥
      fits_never k c = rest (fault (floor_at room end w)) refl (sym on ∙ nine c)
        where
          rest : (g : Option Fault) → fault (floor_at room end w) ≡ g → placed g (length room) len w ≡ Err NoRoom → ⊥
          rest (Some f) u h = let z : f ≡ NoRoom = cc in not_nine station name (floor_at room end w) (u ∙ ap (λ (x : Fault). Some x) z)
          rest None u h = no_length (sym h ∙ ap (λ (j : Bool). cond j (Err NoRoom) (Ok (len + length w))) (le-ltb (length room) (len + length w) k))

      not_short : length room < len + length w → leb (len + length w) (length room) ≡ false → (r ≡ Err NoRoom → ⊥) → Added room len station name (length_of r) room'
      not_short k d z = cases (fault (floor_at room end w)) refl
        where
          cases : (g : Option Fault) → fault (floor_at room end w) ≡ g → Added room len station name (length_of r) room'
          cases None g =
              let m : placed_at room end station name ≡ Err NoRoom =
              on ∙ ap (λ (j : Option Fault). placed j (length room) len w) g ∙ ap (λ (j : Bool). cond j (Err NoRoom) (Ok (len + length w))) (lt-ltb (length room) (len + length w) k) in
              absurd (z (x.answer ∙ ap (behind end station) m))
          cases (Some f) g =
              let m : placed_at room end station name ≡ Err f = on ∙ ap (λ (j : Option Fault). placed j (length room) len w) g in
              let a : Err f ≡ length_of r = sym (ap length_of x.answer ∙ ap (λ (j : Made). length_of (behind end station j)) m) in
              let v : room ≡ room' = sym (x.leaves ∙ ap (λ (j : Made). left j room len w) m) in
              let u : fault (floor_where false b.header.format floor) ≡ Some f = sym (ap (λ (j : Bool). fault (floor_where j b.header.format floor)) d) ∙ g in
              let s : Added room len station name (Err f) room = short_fault k f u in
              record { answer = sym a ∙ s.answer; leaves = sym v ∙ s.leaves }

      go : (t : Bool) → leb (len + length w) (length room) ≡ t → GoneOn room end station name r room'
      go true d = record {
        adds = λ z. fits_adds (leb-true (len + length w) (length room) d) r room' x;
        short = λ c. absurd (fits_never (leb-true (len + length w) (length room) d) c);
        kept = keeps;
      }
      go false d =
          let k : length room < len + length w = leb-false (len + length w) (length room) d in
          record { adds = λ z. not_short k d z; short = λ c. k; kept = keeps }

pub append_adds : (room : List ℕ) → Bytes room → (e : End) (b : Book) → GoodEnd room e b → (station : ℕ) (name : List ℕ) (r : Ended) (room' : List ℕ) → Appended room e station name r room'
    → GoneOn room e station name r room'
append_adds room bs e b x station name r room' y =
    subst (λ (k : End). GoneOn room k station name r room') (sym x.is) (gone room bs station name e.len b x.n x.reads r room' (subst (λ (k : End). Appended room k station name r room') x.is y))

-- ---- the end of the longer book
abbrev pub longer : Book → ℕ → List ℕ → Book
longer b station name = record { header = b.header; records = b.records ++ keyed_entry b.header station name ∷ [] }

floor_more : (floor : ℕ) (es : List Entry) (e : Entry) → floor_of floor (es ++ e ∷ []) ≡ above e
floor_more floor [] e = refl
floor_more floor (x ∷ es) e = floor_more (above x) es e

record NextEnd (e : End) (station : ℕ) (m : Made) (e' : End) : Type 0 where
  laid : m ≡ Ok e'.len
  header : e'.header ≡ e.header
  floor : e'.floor ≡ station + 1

next_end : (e : End) (station : ℕ) (m : Made) (e' : End) → behind e station m ≡ Ok e' → NextEnd e station m e'
next_end e station (Err f) e' p = let z : ◌≡◌ {A = ℕ} 0 1 = cc in absurd (omega arith)
next_end e station (Ok n) e' p =
    let q : record { header = e.header; len = n; floor = station + 1 } ≡ e' = cc in
    record { laid = ap (λ (k : End). Ok k.len) q; header = ap (λ (k : End). k.header) (sym q); floor = ap (λ (k : End). k.floor) (sym q) }

read_all : (room : List ℕ) (len : ℕ) (x : Got Book) → len ≤ length room → read_book (take len room) ≡ x → read_in room len ≡ x
unfolding read_in_by
read_all room len x h e = rw (le-ltb (length room) len h) e

on_from : (room : List ℕ) → Bytes room → (station : ℕ) (name : List ℕ) (len : ℕ) (b : Book) (n : ℕ) → read_in room len ≡ good b n → (e' : End) (room' : List ℕ)
    → Appended room (end_of b len) station name (Ok e') room' → GoodEnd room' e' (longer b station name)
unfolding keyed
on_from room bs station name len b n e e' room' x =
    let v : List ℕ = new_bytes b.header station name in
    let y : NextEnd (end_of b len) station (placed_at room (end_of b len) station name) e' = next_end (end_of b len) station (placed_at room (end_of b len) station name) e' (sym x.answer) in
    let f₀ : Option Fault = new_fault (floor_at room (end_of b len) v) station name in
    let k : Laid f₀ (length room) len v e'.len =
    was_laid f₀ (length room) len v e'.len (sym (placed_on room (end_of b len) station name (no_end_fault room len b n e)) ∙ y.laid) in
    let g : Grown room len station name e'.len room' = add_reads room bs len station name e'.len room' (fits_adds room bs station name len b n e k.fits (Ok e') room' x) in
    let s : g.b ≡ b = same (sym g.before ∙ e) in
    let q : read_book (take e'.len room') ≡ good (record { header = b.header; records = (add_base room len b v).records ++ keyed_entry b.header station name ∷ [] }) e'.len =
    subst (λ (c : Book). read_book (take e'.len room') ≡ good (record { header = c.header; records = (add_base room len c (new_bytes c.header station name)).records ++ keyed_entry c.header station name ∷ [] }) e'.len) s g.after in
    let r : read_book (take e'.len room') ≡ good (longer b station name) e'.len =
    q ∙ ap (λ (t : Bool). good (record { header = b.header; records = (base_of t room len b).records ++ keyed_entry b.header station name ∷ [] }) e'.len) (le-ltb (length room) (len + length v) k.fits) in
    let d : room' ≡ left (Ok e'.len) room len v = x.leaves ∙ ap (λ (j : Made). left j room len v) y.laid in
    let h : e'.len ≤ length room' = omega (arith, k.long, k.fits, ap length d, length-sets room len v) in
    let f : floor_of 0 (b.records ++ keyed_entry b.header station name ∷ []) ≡ station + 1 = floor_more 0 b.records (keyed_entry b.header station name) in
    record {
      n = e'.len;
      reads = read_all room' e'.len _ h r;
      is = λ i. record { header = y.header i; len = e'.len; floor = (y.floor ∙ sym f) i };
    }

pub append_goes_on : (room : List ℕ) → Bytes room → (station : ℕ) (name : List ℕ) (e : End) (b : Book) → GoodEnd room e b → (e' : End) (room' : List ℕ) → Appended room e station name (Ok e') room'
    → GoodEnd room' e' (longer b station name)
append_goes_on room bs station name e b x e' room' y =
    on_from room bs station name e.len b x.n x.reads e' room' (subst (λ (k : End). Appended room k station name (Ok e') room') x.is y)

-- ---- what `read` tells of the bytes in front of a room is the end of a good book
pub book_end : (room : List ℕ) (len : ℕ) → len ≤ length room → (w : Whole) → whole_by (read_book (take len room)) ≡ Ok w
    → (b : Book) × GoodEnd room (record { header = w.header; len = len; floor = w.measure.floor }) b
book_end room len k w p =
    let x = whole_told (formats 1) (take len room) w p in (
      x.b,
      record {
        n = x.n;
        reads = read_all room len _ k x.is;
        is = λ i. record { header = sym x.header i; len = len; floor = ap (λ (j : Measure). j.floor) x.measures i };
      },
    )
