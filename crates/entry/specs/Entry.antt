-- A record of a station key book with its kind, after requests L1 and L7: how it is written, and what reading it gives, or the first fault met,
-- at the byte that shows it.
--
-- Format 2 spells a kind before each record, 1 for a live one and 0 for a closed one. Format 1 spells none: all its records are live.
--
-- Fields are read in their order. A number is judged when it is whole: its form before its value. A name's length is judged
-- before any byte of it, and its bytes before its end is missed.
use Rattle.std.specs.Prelude.{ℕ, ◌+◌, Bool, cond, List, [], ◌++◌, ltb, eqb, Option, Some, None}
use Rattle.terms.specs.declared.Fault.{Fault}
use Rattle.terms.specs.declared.Fault.TheVariants.{NotAbove}
use Rattle.fields.specs.Got.{read_both, mapped, Both, Got, good}
use Rattle.fields.specs.Field.{number, text, read_number, read_text, any}
use Rattle.entry.specs.Kinds.{kinds}
use Rattle.name.specs.Named.{name_length, name_byte}

pub record Record : Type 0 where
  pub station : ℕ
  pub name : List ℕ
  pub primary : List ℕ
  pub alternate : List ℕ

-- a record with its kind
pub record Entry : Type 0 where
  pub kind : ℕ
  pub body : Record

unfoldable pub record_bytes : Record → List ℕ
record_bytes r = number r.station ++ (text r.name ++ (text r.primary ++ text r.alternate))

-- a kind under a format
unfoldable pub kind_bytes : ℕ → ℕ → List ℕ
kind_bytes format k = cond (eqb format 1) [] (number k)

unfoldable pub entry_bytes : ℕ → Entry → List ℕ
entry_bytes format e = kind_bytes format e.kind ++ record_bytes e.body

-- a station, which must be at least `floor`
abbrev pub rising : ℕ → ℕ → Option Fault
rising floor v = cond (ltb v floor) (Some NotAbove) None

abbrev pub Texts : Type 0
Texts = Both (List ℕ) (Both (List ℕ) (List ℕ))

abbrev pub record_of : Both ℕ Texts → Record
record_of p = record { station = p.front; name = p.behind.front; primary = p.behind.behind.front; alternate = p.behind.behind.behind }

-- one record whose station is at least `floor`
unfoldable pub read_record : ℕ → List ℕ → Got Record
read_record floor l =
    mapped record_of (read_both (read_number (rising floor)) (read_both (read_text name_length name_byte) (read_both (read_text any any) (read_text any any))) l)

-- the kind before it
unfoldable pub read_kind : ℕ → List ℕ → Got ℕ
read_kind format l = cond (eqb format 1) (good 1 0) (read_number kinds l)

abbrev pub entry_of : Both ℕ Record → Entry
entry_of p = record { kind = p.front; body = p.behind }

unfoldable pub read_entry : ℕ → ℕ → List ℕ → Got Entry
read_entry format floor l = mapped entry_of (read_both (read_kind format) (read_record floor) l)

-- the least station of the next record, whatever kinds they have
abbrev pub above : Entry → ℕ
above e = e.body.station + 1

-- ---- live, and not closed
abbrev pub is_live : Entry → Bool
is_live e = eqb e.kind 1
