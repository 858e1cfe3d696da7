-- What the readers of fields answer: where a good field lies, and where the next begins.
use Rattle.std.specs.Prelude.{ℕ, ◌+◌, List, length, Result, Ok, Err}
use Rattle.terms.specs.declared.Fault.{Fault}
use Rattle.slices.specs.declared.Span.{Span}
use Rattle.fields.specs.declared.Field.{Field}
use Rattle.fields.specs.Got.{Got, good, bad}
use Rattle.fields.specs.Field.{number}

-- what was read at a place, as it is told
abbrev pub field_at : {A B : Type 0} → (A → B) → ℕ → Got A → Result (Field B) Fault
field_at told at (good a n) = Ok (record { value = told a; next = at + n })
field_at told at (bad f) = Err f

-- a number that was read at a place
abbrev pub value_at : ℕ → Got ℕ → Result (Field ℕ) Fault
value_at at x = field_at (λ v. v) at x

-- where the bytes of a text lie that begins at a place
abbrev pub span_at : ℕ → List ℕ → Span
span_at at t = record { start = at + length (number (length t)); len = length t }

abbrev pub part_at : ℕ → Got (List ℕ) → Result (Field Span) Fault
part_at at x = field_at (span_at at) at x

-- bytes that begin at a place, with no length before them
abbrev pub bytes_at : ℕ → Got (List ℕ) → Result (Field Span) Fault
bytes_at at x = field_at (λ t. record { start = at; len = length t }) at x
