-- Adding a record. Where it does not fit as the book stands, the book is closed up first. All records of a format 1 book are live, so that
-- closing up changes nothing there, and one definition serves both formats. crates/book_laws/proofs/Grows.antt shows what is read afterwards.
use Rattle.std.specs.Prelude.{ℕ, ◌+◌, ◌≤◌, ◌≡◌, Bool, true, false, List, ◌++◌, ltb, length, take, Option, Ok, Err}
use Rattle.std.proofs.lemmas.List.Edits.{sets}
use Rattle.terms.specs.declared.Fault.{Fault}
use Rattle.fields.specs.Got.{Got, good, bad}
use Rattle.header.specs.declared.Header.{Header}
use Rattle.book.specs.declared.Whole.{Whole}
use Rattle.entry.specs.Entry.{Entry, entry_bytes}
use Rattle.book.specs.Book.{Book, written, live, floor_of}
use Rattle.book.specs.Told.{whole_by}
use Rattle.putting.specs.declared.NewRecord.{NewRecord}
use Rattle.putting.specs.Laid.{placed, Made}
use Rattle.putting.specs.New.{new_entry}
use Rattle.placing.specs.Placing.{station_fault}
use Rattle.book.specs.Room.{read_in}

-- where the new record goes: behind the book as it stands, with all its stations; or behind header and live records, with theirs
pub record Base : Type 0 where
  pub front : List ℕ
  pub records : List Entry

abbrev pub base_of : Bool → List ℕ → ℕ → Book → Base
base_of false room len b = record { front = take len room; records = b.records }
base_of true room len b = record { front = written b.header (live b.records); records = live b.records }

abbrev pub add_base : List ℕ → ℕ → Book → List ℕ → Base
add_base room len b new = base_of (ltb (length room) (len + length new)) room len b

-- the fault of a new record goes by the least station that it may have; the room is tested last
abbrev pub add_placed : (ℕ → Option Fault) → List ℕ → Base → List ℕ → Made
add_placed fault room base new = placed (fault (floor_of 0 base.records)) (length room) (length base.front) new

-- a refusal has moved nothing; else the front of the room is the base and the new record, and the bytes behind keep what they held
abbrev pub add_left : Made → List ℕ → Base → List ℕ → List ℕ
add_left (Ok n) room base new = sets room 0 (base.front ++ new)
add_left (Err f) room base new = room

abbrev pub add_answer : (ℕ → Option Fault) → (Header → List ℕ) → List ℕ → ℕ → Got Book → Made
add_answer fault new room len (bad f) = Err f
add_answer fault new room len (good b n) = add_placed fault room (add_base room len b (new b.header)) (new b.header)

abbrev pub add_leaves : (ℕ → Option Fault) → (Header → List ℕ) → List ℕ → ℕ → Got Book → List ℕ
add_leaves fault new room len (bad f) = room
add_leaves fault new room len (good b n) = add_left (add_answer fault new room len (good b n)) room (add_base room len b (new b.header)) (new b.header)

-- a record whose bytes under a header are `new`, and whose faults before that of the room are `fault`
pub record AddedAs (fault : ℕ → Option Fault) (new : Header → List ℕ) (room : List ℕ) (len : ℕ) (r : Made) (room' : List ℕ) : Type 0 where
  pub answer : r ≡ add_answer fault new room len (read_in room len)
  pub leaves : room' ≡ add_leaves fault new room len (read_in room len)

-- the same of one whose codes are made
abbrev pub CodedAdded : List ℕ → ℕ → NewRecord → Made → List ℕ → Type 0
CodedAdded room len new r room' = AddedAs (λ floor. station_fault floor new.station) (λ h. entry_bytes h.format (new_entry new)) room len r room'

-- the book in the first `len` bytes of the room was read
pub record Stands (room : List ℕ) (len : ℕ) (whole : Whole) : Type 0 where
  pub fits : len ≤ length room
  pub told : whole_by (read_in room len) ≡ Ok whole
