-- The answers of the book and the join as a host's numbers.
use Rattle.std.specs.Prelude.{ℕ, List, [], ◌∷◌, Option, Some, None, Result, Ok, Err}
use Rattle.terms.specs.declared.Fault.{Fault}
use Rattle.terms.specs.Faults.{number_of}
use Rattle.header.specs.declared.Opened.{Opened}
use Rattle.entry.specs.declared.Record.{Record}
use Rattle.entry.specs.Kinds as kinds
use Rattle.book.specs.declared.End.{End}
use Rattle.book.specs.declared.Whole.{Whole}

-- number, and length or count
abbrev pub made_numbers : Result ℕ Fault → List ℕ
made_numbers (Ok n) = 0 ∷ n ∷ []
made_numbers (Err f) = number_of f ∷ 0 ∷ []

-- number, format, edition, cut, and the first cursor
abbrev pub opened_numbers : Result Opened Fault → List ℕ
opened_numbers (Ok o) = 0 ∷ o.header.format ∷ o.header.edition ∷ o.header.cut ∷ o.first.at ∷ o.first.floor ∷ []
opened_numbers (Err f) = number_of f ∷ 0 ∷ 0 ∷ 0 ∷ 0 ∷ 0 ∷ []

-- number, 1 for a record, station, name, primary, alternate, the next cursor, and the kind
abbrev pub step_numbers : Result (Option Record) Fault → List ℕ
step_numbers (Ok (Some r)) =
    0 ∷ 1 ∷ r.station ∷ r.name.start ∷ r.name.len ∷ r.primary.start ∷ r.primary.len ∷ r.alternate.start ∷ r.alternate.len ∷ r.next.at ∷ r.next.floor ∷ kinds.number_of r.kind ∷ []
step_numbers (Ok None) = 0 ∷ 0 ∷ 0 ∷ 0 ∷ 0 ∷ 0 ∷ 0 ∷ 0 ∷ 0 ∷ 0 ∷ 0 ∷ 0 ∷ []
step_numbers (Err f) = number_of f ∷ 0 ∷ 0 ∷ 0 ∷ 0 ∷ 0 ∷ 0 ∷ 0 ∷ 0 ∷ 0 ∷ 0 ∷ 0 ∷ []

-- number, format, edition, cut, records, the least station of a further record, and how many records are live
abbrev pub whole_numbers : Result Whole Fault → List ℕ
whole_numbers (Ok w) = 0 ∷ w.header.format ∷ w.header.edition ∷ w.header.cut ∷ w.measure.count ∷ w.measure.floor ∷ w.measure.live ∷ []
whole_numbers (Err f) = number_of f ∷ 0 ∷ 0 ∷ 0 ∷ 0 ∷ 0 ∷ 0 ∷ []

-- number, length, and the least station of a further record
abbrev pub ended_numbers : Result End Fault → List ℕ
ended_numbers (Ok e) = 0 ∷ e.len ∷ e.floor ∷ []
ended_numbers (Err f) = number_of f ∷ 0 ∷ 0 ∷ []
