-- What a close answers, and leaves in the lent room: one byte changes, the kind of the live record of that station.
-- crates/book_laws/proofs/Closing.antt shows what is read afterwards.
use Rattle.std.specs.Prelude.{ℕ, ◌≡◌, cond, List, [], ◌∷◌, set, Ok, Err}
use Rattle.fields.specs.Got.{Got, good, bad}
use Rattle.header.specs.Head.{formats}
use Rattle.putting.specs.Laid.{Made}
use Rattle.book.specs.Room.{read_in_by}
use Rattle.entry.specs.Entry.{Entry}
use Rattle.finding.specs.Finding.{meant, kind_place}

-- a record closed, and records with the live one of a station closed
abbrev pub closed : Entry → Entry
closed e = record { kind = 0; body = e.body }

abbrev pub closed_in : ℕ → List Entry → List Entry
closed_in station [] = []
closed_in station (e ∷ es) = cond (meant station e) (closed e ∷ es) (e ∷ closed_in station es)

abbrev pub close_answer : ℕ → Got ℕ → Made
close_answer len (good p n) = Ok len
close_answer len (bad f) = Err f

abbrev pub close_leaves : List ℕ → Got ℕ → List ℕ
close_leaves room (good p n) = set room p 0
close_leaves room (bad f) = room

pub record Closed (room : List ℕ) (len station : ℕ) (r : Made) (room' : List ℕ) : Type 0 where
  pub answer : r ≡ close_answer len (kind_place station (read_in_by (formats 2) room len))
  pub leaves : room' ≡ close_leaves room (kind_place station (read_in_by (formats 2) room len))
