-- The header of a station key book, after requests L1 and L7: format, edition and cut; how it is written, and what reading it gives.
use Rattle.std.specs.Prelude.{ℕ, ◌+◌, zero, suc, ◌&&◌, cond, List, ◌++◌, leb, Option, Some, None, Result, Ok, Err}
use Rattle.terms.specs.declared.Fault.{Fault}
use Rattle.terms.specs.declared.Fault.TheVariants.{NotKnown}
use Rattle.fields.specs.Got.{read_both, mapped, Got, good, bad, Both}
use Rattle.fields.specs.Field.{number, read_number, first, any}
use Rattle.terms.specs.Editions.{last_edition, last_format}
use Rattle.header.specs.declared.Opened.{Opened}
use Rattle.header.specs.declared.Header.{Header}
use Rattle.terms.specs.Limits.{Limit}

-- ---- writing
unfoldable pub header_bytes : Header → List ℕ
header_bytes h = number h.format ++ (number h.edition ++ number h.cut)

-- ---- judges: none, or the fault that the last byte of a number, or a byte of a name, shows
-- a format or an edition, of those from `least` to `most`
abbrev pub known : ℕ → ℕ → ℕ → Option Fault
known least most v = cond (leb least v && leb v most) None (Some NotKnown)

-- the formats that are taken, from the least of them on: every reader takes those from 1 on, a close those from 2 on
abbrev pub formats : ℕ → ℕ → Option Fault
formats least v = known least last_format v

abbrev pub editions : ℕ → Option Fault
editions v = known 1 last_edition v

-- ---- reading, at the front of a list
abbrev pub header_of : Both ℕ (Both ℕ ℕ) → Header
header_of p = record { format = p.front; edition = p.behind.front; cut = p.behind.behind }

-- under a judge of its format
unfoldable pub read_header_by : (ℕ → Option Fault) → List ℕ → Got Header
read_header_by format l = mapped header_of (read_both (read_number format) (read_both (read_number editions) (read_number any)) l)

-- a book of any known format
abbrev pub read_header : List ℕ → Got Header
read_header l = read_header_by (formats 1) l

-- and a cursor at the first record
abbrev pub opened_by : Got Header → Result Opened Fault
opened_by (good h n) = Ok (record { header = h; first = record { at = n; floor = 0 } })
opened_by (bad f) = Err f

-- the fault of a format or an edition that is not known
abbrev pub unknown : ℕ → ℕ → Option Fault
unknown format edition = first (formats 1 format) (editions edition)

-- the cut: 0 for none, else the limit plus 1
abbrev pub cut_of : Limit → ℕ
cut_of None = 0
cut_of (Some n) = n + 1

abbrev pub limit_of : ℕ → Limit
limit_of zero = None
limit_of (suc n) = Some n
