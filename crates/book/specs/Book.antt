-- The station key book, after requests L1 and L7: how it is written, and what reading it gives: its header and records, or the first
-- fault met, at the byte that shows it, and of a short book at its end. crates/book_laws/proofs/Good.antt has the theorems.
use Rattle.std.specs.Prelude.{ℕ, ◌+◌, cond, List, [], ◌∷◌, ◌++◌, drop, Option}
use Rattle.terms.specs.declared.Fault.{Fault}
pub use Rattle.fields.specs.Got.{Got, good, bad, Both}
use Rattle.fields.specs.Got.{read_all, write_all}
pub use Rattle.header.specs.declared.Header.{Header}
use Rattle.entry.specs.Entry.{Entry, entry_bytes, read_entry, above, is_live}
use Rattle.header.specs.Head.{header_bytes, formats, read_header_by}

pub record Book : Type 0 where
  pub header : Header
  pub records : List Entry

unfoldable pub written : Header → List Entry → List ℕ
written h es = header_bytes h ++ write_all (entry_bytes h.format) es

unfoldable pub read_entries : ℕ → ℕ → List ℕ → Got (List Entry)
read_entries format floor l = read_all (read_entry format) above floor 0 l

abbrev pub under : Header → ℕ → Got (List Entry) → Got Book
under h n (good es m) = good (record { header = h; records = es }) (n + m)
under h n (bad f) = bad f

abbrev pub behind_header : List ℕ → Got Header → Got Book
behind_header l (good h n) = under h n (read_entries h.format 0 (drop n l))
behind_header l (bad f) = bad f

unfoldable pub read_book_by : (ℕ → Option Fault) → List ℕ → Got Book
read_book_by format l = behind_header l (read_header_by format l)

abbrev pub read_book : List ℕ → Got Book
read_book l = read_book_by (formats 1) l

abbrev pub live : List Entry → List Entry
live [] = []
live (e ∷ es) = cond (is_live e) (e ∷ live es) (live es)

unfoldable pub live_bytes : ℕ → List Entry → List ℕ
live_bytes format es = write_all (entry_bytes format) (live es)

-- the least station behind these records
abbrev pub floor_of : ℕ → List Entry → ℕ
floor_of floor [] = floor
floor_of floor (e ∷ es) = floor_of (above e) es
