-- What reading can answer: a book that takes every byte, or one of six faults. proofs/Answers.antt shows that every
-- sequence of bytes gets one of these.
use Rattle.std.specs.Prelude.{ℕ, ◌≡◌, Bool, true, false, List, length}
use Rattle.terms.specs.declared.Fault.{Fault}
use Rattle.terms.specs.declared.Fault.TheVariants.{TooLong, NotAscii, BadNumber, BookEnds, NotKnown, NotAbove, NoRoom, EditionsDiffer, NoLive}
use Rattle.fields.specs.Got.{Got, good, bad}
use Rattle.book.specs.Book.{Book}

abbrev pub is_fault : Fault → Bool
is_fault TooLong = true
is_fault NotAscii = true
is_fault BadNumber = true
is_fault BookEnds = true
is_fault NotKnown = true
is_fault NotAbove = true
is_fault NoRoom = false
is_fault EditionsDiffer = false
is_fault NoLive = false

pub data Answer (l : List ℕ) : Got Book → Type 0 where
  reads : (b : Book) → Answer l (good b (length l))
  shows : (f : Fault) → is_fault f ≡ true → Answer l (bad f)
