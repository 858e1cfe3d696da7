-- The header is one form: what is written reads back, and what reads is its one writing. Which formats and editions are known.
use Prim.Native.Nat.{ℕ, ◌≤◌}
use mathlib.Core.Path.{◌≡◌, refl}
use borrow.Author.Tests.{le-leb}
use Rattle.fields.specs.Got.{Both}
use Rattle.fields.specs.Field.{FineNumber, any}
use Rattle.fields.proofs.Law.{Law, Fines, both, renamed}
use Rattle.fields.proofs.Forms.{number_law}
use Rattle.header.specs.declared.Header.{Header}
use Rattle.header.specs.Head.{header_bytes, editions, header_of, read_header_by, known}
use Rattle.std.specs.Prelude.{Option, None}
use Rattle.terms.specs.declared.Fault.{Fault}

-- ---- a header, under any judge of its format
abbrev header_parts : Header → Both ℕ (Both ℕ ℕ)
header_parts h = record { front = h.format; behind = record { front = h.edition; behind = h.cut } }

abbrev pub FineHeader : (ℕ → Option Fault) → Header → Type 0
FineHeader judge h = Fines (FineNumber judge) (Fines (FineNumber editions) (FineNumber any)) (header_parts h)

pub header_law : (judge : ℕ → Option Fault) → Law header_bytes (read_header_by judge) (FineHeader judge)
unfolding header_bytes read_header_by
header_law judge = renamed header_of header_parts (λ h. refl) (λ p. refl) (both (number_law judge) (both (number_law editions) (number_law any)))

-- ---- judges
pub known_good : (least most v : ℕ) → least ≤ v → v ≤ most → known least most v ≡ None
known_good least most v h k = rw (le-leb least v h, le-leb v most k)
