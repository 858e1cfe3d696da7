-- The book in the first `len` bytes of lent room. A stated length beyond the room: the bytes that are there are read, and if they
-- show no fault the book is short, met at its end.
use Rattle.std.specs.Prelude.{ℕ, Bool, true, false, List, ltb, length, take, Option}
use Rattle.terms.specs.declared.Fault.{Fault}
use Rattle.terms.specs.declared.Fault.TheVariants.{BookEnds}
use Rattle.fields.specs.Got.{Got, good, bad}
use Rattle.book.specs.Book.{Book, read_book_by}
use Rattle.header.specs.Head.{formats}

abbrev pub shortened : Bool → Got Book → Got Book
shortened true (good b n) = bad BookEnds
shortened true (bad f) = bad f
shortened false x = x

unfoldable pub read_in_by : (ℕ → Option Fault) → List ℕ → ℕ → Got Book
read_in_by format room len = shortened (ltb (length room) len) (read_book_by format (take len room))

abbrev pub read_in : List ℕ → ℕ → Got Book
read_in room len = read_in_by (formats 1) room len
