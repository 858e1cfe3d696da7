-- The C face: a host's numbers as a choice, a cursor and an end. What the answers are is the encoder's, the equality
-- question's, the book's, the writer's and the join's own definition; their numbers are those of crates/answers and crates/telling_books.
use Rattle.std.specs.Prelude.{ℕ}
use Rattle.header.specs.declared.Header.{Header}
use Rattle.book.specs.declared.End.{End}

abbrev pub header_from : ℕ → ℕ → ℕ → Header
header_from format edition cut = record { format = format; edition = edition; cut = cut }

abbrev pub end_from : ℕ → ℕ → ℕ → ℕ → ℕ → End
end_from format edition cut len floor = record { header = header_from format edition cut; len = len; floor = floor }
