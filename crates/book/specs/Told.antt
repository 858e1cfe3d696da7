-- What the book's readers answer: where the parts of a good record lie, and where the next begins.
use Rattle.std.specs.Prelude.{ℕ, ◌+◌, cond, List, ◌≡◌, ltb, length, drop, Option, Some, None, Result, Ok, Err}
use Rattle.terms.specs.declared.Fault.{Fault}
use Rattle.fields.specs.Got.{Got, good, bad}
use Rattle.header.specs.declared.Cursor.{Cursor}
use Rattle.entry.specs.declared.Record.{Record}
use Rattle.book.specs.declared.Measure.{Measure}
use Rattle.book.specs.declared.Whole.{Whole}
use Rattle.entry.specs.Entry.{Entry, read_entry}
use Rattle.book.specs.Book.{Book, live, live_bytes, floor_of}
use Rattle.header.specs.Head.{header_bytes, unknown}
use Rattle.entry.specs.Told.{record_at}

-- a record, where there is one
abbrev pub some_record : Result Record Fault → Result (Option Record) Fault
some_record (Ok r) = Ok (Some r)
some_record (Err f) = Err f

-- a cursor at the end of the book, or behind it, has nothing to read
abbrev pub step_of : List ℕ → ℕ → Cursor → Result (Option Record) Fault
step_of s format c = cond (ltb c.at (length s)) (some_record (record_at format c.at (read_entry format c.floor (drop c.at s)))) (Ok None)

-- a fault that is known first, or an answer
abbrev pub refused : {A : Type 0} → Option Fault → Result A Fault → Result A Fault
refused None x = x
refused (Some f) x = Err f

abbrev pub next_of : List ℕ → ℕ → ℕ → Cursor → Result (Option Record) Fault
next_of s format edition c = refused (unknown format edition) (step_of s format c)

-- what is measured behind what was measured before: how many records there are, how many of them are live, the least station behind all
-- and behind the live ones, and how many bytes the live ones take
abbrev pub measured : ℕ → Measure → List Entry → Measure
measured format m es = record {
  count = m.count + length es;
  live = m.live + length (live es);
  floor = floor_of m.floor es;
  least = floor_of m.least (live es);
  size = m.size + length (live_bytes format es);
}

abbrev pub unmeasured : Measure
unmeasured = record { count = 0; live = 0; floor = 0; least = 0; size = 0 }

abbrev pub surveyed : ℕ → Measure → Got (List Entry) → Result Measure Fault
surveyed format m (good es n) = Ok (measured format m es)
surveyed format m (bad f) = Err f

-- where the records begin, and what they measure
abbrev pub whole_by : Got Book → Result Whole Fault
whole_by (good b n) = Ok (record { header = b.header; first = length (header_bytes b.header); measure = measured b.header.format unmeasured b.records })
whole_by (bad f) = Err f

-- ---- records that read
pub record AllGood (x : Got (List Entry)) : Type 0 where
  pub es : List Entry
  pub n : ℕ
  pub is : x ≡ good es n
