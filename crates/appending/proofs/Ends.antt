-- The end of a book, and going on from it, from what the functions' tests show.
use Prim.Native.Nat.{ℕ, ◌+◌, ◌^◌, ◌<◌}
use mathlib.Core.Path.{◌≡◌, sym, ap, ◌∙◌, subst}
use mathlib.Core.List.{List}
use borrow.Author.Tests.{le-ltb}
use lib.Dec.{leb}
use lib.ListN.{length, take}
use Rattle.std.specs.Prelude.{Option, None, Ok}
use Rattle.terms.specs.declared.Fault.{Fault}
use Rattle.fields.specs.Got.{good}
use Rattle.fields.specs.Field.{first}
use Rattle.header.specs.Head.{formats}
use Rattle.entry.specs.Entry.{Record, entry_bytes}
use Rattle.book.specs.Book.{Book}
use Rattle.book.specs.Room.{read_in}
use Rattle.book.specs.declared.End.{End}
use Rattle.book.proofs.Book.{laid}
use Rattle.book.proofs.Room.{Lies, lies}
use Rattle.putting.specs.declared.NewRecord.{NewRecord}
use Rattle.putting.specs.Laid.{placed, left, Placed, Made}
use Rattle.putting.specs.New.{new_entry}
use Rattle.placing.specs.Placing.{station_fault, floor_where}
use Rattle.keying.specs.Keyed.{keyed, new_bytes, new_fault, Keys}
use Rattle.keying.proofs.Keyed.{was_laid, sound}
use Rattle.appending.specs.Ended.{Ended, end_of, end_fault, floor_at, placed_at, behind, Appended}

-- ---- going on
module _ (room : List ℕ) (e : End) (station : ℕ) (name : List ℕ) where
  abbrev new : List ℕ
  new = new_bytes e.header station name

  abbrev fault : Option Fault
  fault = new_fault (floor_at room e (new_bytes e.header station name)) station name

  -- an end without
  pub placed_on : end_fault e (length room) ≡ None → placed_at room e station name ≡ placed (new_fault (floor_at room e (new_bytes e.header station name)) station name) (length room) e.len (new_bytes e.header station name)
  placed_on z = ap (λ (x : Option Fault). placed (first x fault) (length room) e.len new) z

  pub appended : end_fault e (length room) ≡ None → (m : Made) (room' : List ℕ) → Placed (new_fault (floor_at room e (new_bytes e.header station name)) station name) room e.len (new_bytes e.header station name) m room'
      → (r : Ended) → r ≡ behind e station m → Appended room e station name r room'
  appended z m room' x r q = record {
    answer = q ∙ ap (behind e station) (x.answer ∙ sym (placed_on z));
    leaves = x.leaves ∙ sym (ap (λ (y : Made). left y room e.len new) (placed_on z));
  }

  -- one whose codes were made, laid behind the end
  pub coded_placed : (v : NewRecord) → Keys e.header station name v → (m : Made) (room' : List ℕ)
      → Placed (station_fault (floor_where (leb (e.len + length (entry_bytes e.header.format (new_entry v))) (length room)) e.header.format e.floor) v.station) room e.len (entry_bytes e.header.format (new_entry v)) m room'
      → Placed (new_fault (floor_at room e (new_bytes e.header station name)) station name) room e.len (new_bytes e.header station name) m room'
  unfolding new_bytes keyed
  coded_placed v k m room' y =
      let entry : Record → List ℕ = λ r. entry_bytes e.header.format (record { kind = 1; body = r }) in
      let P : Record → Type 0 = λ r. Placed (station_fault (floor_where (leb (e.len + length (entry r)) (length room)) e.header.format e.floor) r.station) room e.len (entry r) m room' in
      subst (λ (g : Option Fault). Placed (first g (station_fault (floor_at room e new) station)) room e.len new m room') (sym k.accepted) (subst P k.is y)

  pub station_small : (m : Made) (room' : List ℕ) → Placed (new_fault (floor_at room e (new_bytes e.header station name)) station name) room e.len (new_bytes e.header station name) m room' → (n : ℕ) → m ≡ Ok n → station < 2 ^ 28
  station_small m room' x n q = (sound (floor_at room e new) station name (was_laid fault (length room) e.len new n (sym x.answer ∙ q)).none).small

pub no_end_fault : (room : List ℕ) (len : ℕ) (b : Book) (n : ℕ) → read_in room len ≡ good b n → end_fault (end_of b len) (length room) ≡ None
no_end_fault room len b n e =
    let x : Lies (formats 1) room len b n = lies (formats 1) room len b n e in
    let h = (laid (formats 1) (take len room) b n x.reads).fine in
    rw (h.front.judged, h.behind.front.judged, le-ltb (length room) len x.fits)
