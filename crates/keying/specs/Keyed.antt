-- A new record: its name is encoded under the header's edition and cut; its faults, in the request's order.
use Rattle.std.specs.Prelude.{ℕ, ◌≡◌, cond, List, ltb, length, Option, Some, None, Result, Ok, Err}
use Rattle.terms.specs.declared.Fault.{Fault}
use Rattle.terms.specs.declared.Fault.TheVariants.{TooLong, NotAscii}
use Rattle.chosen.specs.declared.Choice.{Choice}
use Rattle.chosen.specs.declared.Choice.TheVariants.{Primary, Alternate}
use Rattle.ascii.specs.High.{first_high}
use Rattle.terms.specs.Limits.{word_limit}
use Rattle.terms.specs.Editions.{edition_of}
use Rattle.demands.specs.Code.{code_of}
use Rattle.fields.specs.Field.{first}
use Rattle.header.specs.declared.Header.{Header}
use Rattle.entry.specs.Entry.{Record, Entry, entry_bytes}
use Rattle.header.specs.Head.{limit_of}
use Rattle.putting.specs.declared.NewRecord.{NewRecord}
use Rattle.putting.specs.New.{record_with, new_record, Short}
use Rattle.placing.specs.Placing.{station_fault}

-- ---- a new record: its name is encoded under the header's edition and cut
abbrev pub code_under : Header → Choice → List ℕ → List ℕ
code_under h c name = code_of (edition_of h.edition) (limit_of h.cut) c name

unfoldable pub keyed : Header → ℕ → List ℕ → Record
keyed h station name = record_with station name (code_under h Primary name) (code_under h Alternate name)

abbrev pub keyed_entry : Header → ℕ → List ℕ → Entry
keyed_entry h station name = record { kind = 1; body = keyed h station name }

unfoldable pub new_bytes : Header → ℕ → List ℕ → List ℕ
new_bytes h station name = entry_bytes h.format (keyed_entry h station name)

-- the faults of a name
abbrev pub name_fault : List ℕ → Option Fault
name_fault name = cond (ltb word_limit (length name)) (Some TooLong) (cond (ltb (first_high name) (length name)) (Some NotAscii) None)

-- those of the name, then those of the station; `NoRoom` comes last
abbrev pub new_fault : ℕ → ℕ → List ℕ → Option Fault
new_fault floor station name = first (name_fault name) (station_fault floor station)

-- ---- what making one's codes answers
pub record Keys (h : Header) (station : ℕ) (name : List ℕ) (v : NewRecord) : Type 0 where
  pub accepted : name_fault name ≡ None
  pub is : new_record v ≡ keyed h station name
  pub short : Short v

abbrev pub Keyed : Header → ℕ → List ℕ → Result NewRecord Fault → Type 0
Keyed h station name (Ok v) = Keys h station name v
Keyed h station name (Err f) = name_fault name ≡ Some f
