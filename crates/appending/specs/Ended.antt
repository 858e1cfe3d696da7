-- The end of a good book: where it is found, and how a writer goes on from it. crates/book_laws/proofs/Going.antt shows that going on from the end of a
-- book adds to that book, and ends at the end of the new one.
use Rattle.std.specs.Prelude.{ℕ, ◌+◌, ◌≡◌, cond, List, ltb, leb, length, Option, Some, None, Result, Ok, Err}
use Rattle.terms.specs.declared.Fault.{Fault}
use Rattle.terms.specs.declared.Fault.TheVariants.{BookEnds}
use Rattle.fields.specs.Got.{good}
use Rattle.fields.specs.Field.{first}
use Rattle.book.specs.Book.{Book, floor_of}
use Rattle.header.specs.Head.{unknown}
use Rattle.book.specs.declared.End.{End}
use Rattle.putting.specs.Laid.{placed, left, Made}
use Rattle.keying.specs.Keyed.{new_bytes, new_fault}
use Rattle.book.specs.Room.{read_in}
use Rattle.placing.specs.Placing.{floor_where}

abbrev pub Ended : Type 0
Ended = Result End Fault

abbrev pub end_of : Book → ℕ → End
end_of b len = record { header = b.header; len = len; floor = floor_of 0 b.records }

-- e is the end of a good book at the front of the room
pub record GoodEnd (room : List ℕ) (e : End) (b : Book) : Type 0 where
  pub n : ℕ
  pub reads : read_in room e.len ≡ good b n
  pub is : e ≡ end_of b e.len

-- ---- going on from any end: a format or an edition that is not known, an end behind the room, then the faults of a new record
abbrev pub end_fault : End → ℕ → Option Fault
end_fault e room = first (unknown e.header.format e.header.edition) (cond (ltb room e.len) (Some BookEnds) None)

abbrev pub floor_at : List ℕ → End → List ℕ → ℕ
floor_at room e new = floor_where (leb (e.len + length new) (length room)) e.header.format e.floor

abbrev pub placed_at : List ℕ → End → ℕ → List ℕ → Made
placed_at room e station name =
    placed (first (end_fault e (length room)) (new_fault (floor_at room e (new_bytes e.header station name)) station name)) (length room) e.len
    (new_bytes e.header station name)

-- the end behind the new record
abbrev pub behind : End → ℕ → Made → Ended
behind e station (Ok n) = Ok (record { header = e.header; len = n; floor = station + 1 })
behind e station (Err f) = Err f

pub record Appended (room : List ℕ) (e : End) (station : ℕ) (name : List ℕ) (r : Ended) (room' : List ℕ) : Type 0 where
  pub answer : r ≡ behind e station (placed_at room e station name)
  pub leaves : room' ≡ left (placed_at room e station name) room e.len (new_bytes e.header station name)

-- going on answers what adding answers, and tells more
abbrev pub length_of : Ended → Made
length_of (Ok e) = Ok e.len
length_of (Err f) = Err f
