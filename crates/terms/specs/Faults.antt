-- The faults of documents 01 and 02 that a book, a join or a listing may show, by their numbers.
use Rattle.std.specs.Prelude.{ℕ}
use Rattle.terms.specs.declared.Fault.{Fault}
use Rattle.terms.specs.declared.Fault.TheVariants.{TooLong, NotAscii, BadNumber, BookEnds, NotKnown, NotAbove, NoRoom, EditionsDiffer, NoLive}

abbrev pub number_of : Fault → ℕ
number_of TooLong = 1
number_of NotAscii = 2
number_of BadNumber = 5
number_of BookEnds = 6
number_of NotKnown = 7
number_of NotAbove = 8
number_of NoRoom = 9
number_of EditionsDiffer = 10
number_of NoLive = 11
