-- Where the parts of a good record lie, and where the next begins.
use Rattle.std.specs.Prelude.{ℕ, ◌+◌, List, length, Result, Ok, Err}
use Rattle.terms.specs.declared.Fault.{Fault}
use Rattle.fields.specs.declared.Field.{Field}
use Rattle.fields.specs.Got.{Got, good, bad, Both}
use Rattle.fields.specs.Field.{number, text}
use Rattle.fields.specs.Told.{field_at, span_at}
use Rattle.entry.specs.declared.Codes.{Codes}
use Rattle.entry.specs.declared.Record as told
use Rattle.entry.specs.declared.Kind.{Kind}
use Rattle.entry.specs.Kinds.{kind_of}
use Rattle.entry.specs.Entry.{Record, Entry, kind_bytes}

-- both codes, at a place
abbrev pub codes_at : ℕ → Got (Both (List ℕ) (List ℕ)) → Result (Field Codes) Fault
codes_at at x = field_at (λ p. record { primary = span_at at p.front; alternate = span_at (at + length (text p.front)) p.behind }) at x

-- where the name and the codes of a record begin
abbrev pub name_place : ℕ → Record → ℕ
name_place at r = at + length (number r.station)

abbrev pub primary_place : ℕ → Record → ℕ
primary_place at r = name_place at r + length (text r.name)

abbrev pub alternate_place : ℕ → Record → ℕ
alternate_place at r = primary_place at r + length (text r.primary)

-- a record of a kind that begins at a place, and the next behind it
abbrev pub lies : Kind → ℕ → ℕ → Record → told.Record
lies kind at next r = record {
  kind = kind;
  station = r.station;
  name = span_at (name_place at r) r.name;
  primary = span_at (primary_place at r) r.primary;
  alternate = span_at (alternate_place at r) r.alternate;
  next = record { at = next; floor = r.station + 1 };
}

abbrev pub body_at : Kind → ℕ → Got Record → Result told.Record Fault
body_at kind at (good r n) = Ok (lies kind at (at + n) r)
body_at kind at (bad f) = Err f

-- a record with its kind
abbrev pub body_place : ℕ → ℕ → Entry → ℕ
body_place format at e = at + length (kind_bytes format e.kind)

abbrev pub record_at : ℕ → ℕ → Got Entry → Result told.Record Fault
record_at format at (good e n) = Ok (lies (kind_of e.kind) (body_place format at e) (at + n) e.body)
record_at format at (bad f) = Err f
