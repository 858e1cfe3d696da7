-- Adding a record. Where it does not fit as the book stands, the book is closed up first. All records of a format 1 book are live, so that
-- closing up changes nothing there, and one definition serves both formats. crates/book_laws/proofs/Grows.antt shows what is read afterwards.
use Rattle.std.specs.Prelude.{ℕ, List}
use Rattle.fields.specs.Got.{Got}
use Rattle.book.specs.Book.{Book}
use Rattle.putting.specs.Laid.{Made}
use Rattle.keying.specs.Keyed.{new_bytes, new_fault}
use Rattle.fitting.specs.Base.{add_answer, add_leaves, AddedAs}

-- the faults of the name, of the station, then of the room
abbrev pub added_by : List ℕ → ℕ → ℕ → List ℕ → Got Book → Made
added_by room len station name x = add_answer (λ floor. new_fault floor station name) (λ h. new_bytes h station name) room len x

abbrev pub left_by : List ℕ → ℕ → ℕ → List ℕ → Got Book → List ℕ
left_by room len station name x = add_leaves (λ floor. new_fault floor station name) (λ h. new_bytes h station name) room len x

abbrev pub Added : List ℕ → ℕ → ℕ → List ℕ → Made → List ℕ → Type 0
Added room len station name r room' = AddedAs (λ floor. new_fault floor station name) (λ h. new_bytes h station name) room len r room'
