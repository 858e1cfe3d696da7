-- Station numbers rise strictly in every book that reads, over live and closed records.
use Prim.Native.Nat.{ℕ, zero, suc, ◌≤◌, ◌<◌}
use mathlib.Core.Path.{◌≡◌}
use mathlib.Core.List.{List, [], ◌∷◌}
use native.Mathlib.Omega.{arith}
use lib.ListN.{length, get_or}
use Rattle.number.specs.Septets.{Bytes}
use Rattle.fields.specs.Got.{good}
use Rattle.entry.specs.Entry.{Entry, above}
use Rattle.book.specs.Book.{Book, read_book}
use Rattle.book_laws.specs.Good.{GoodRecords, none, more}
use Rattle.book_laws.specs.Rising.{stations, Rising}
use Rattle.book_laws.proofs.Good.{book_only}

-- none is below the floor
from_floor : (format floor : ℕ) (es : List Entry) → GoodRecords format floor es → (j : ℕ) → j < length (stations es) → floor ≤ get_or (stations es) j 0
from_floor format floor [] none j h = absurd (omega arith)
from_floor format floor (e ∷ es) (more x xs) zero h = x.body.rises
from_floor format floor (e ∷ es) (more x xs) (suc j) h = omega (arith, x.body.rises, from_floor format (above e) es xs j (omega arith))

rise : (format floor : ℕ) (es : List Entry) → GoodRecords format floor es → Rising (stations es)
rise format floor [] none i j h k = absurd (omega arith)
rise format floor (e ∷ es) (more x xs) i zero h k = absurd (omega arith)
rise format floor (e ∷ es) (more x xs) zero (suc j) h k = omega (arith, from_floor format (above e) es xs j (omega arith))
rise format floor (e ∷ es) (more x xs) (suc i) (suc j) h k = rise format (above e) es xs i j (omega arith) (omega arith)

pub stations_rise : (l : List ℕ) → Bytes l → (b : Book) (n : ℕ) → read_book l ≡ good b n → Rising (stations b.records)
stations_rise l bs b n e = rise b.header.format 0 b.records (book_only l bs b n e).records
