-- The live records of a book that reads: closing up leaves the book of them, and a format 1 book as it is.
use Prim.Native.Nat.{ℕ, ◌≤◌}
use mathlib.Core.Path.{◌≡◌, refl, sym, ap, ◌∙◌}
use mathlib.Core.Bool.{Bool, true, false, cond}
use mathlib.Core.List.{List, [], ◌∷◌}
use native.Mathlib.Omega.{arith}
use borrow.Author.Tests.{le-ltb, eqb-true}
use lib.Dec.{eqb}
use lib.ListN.{length, take}
use Rattle.number.specs.Septets.{Bytes}
use Rattle.std.specs.Prelude.{Option}
use Rattle.terms.specs.declared.Fault.{Fault}
use Rattle.fields.specs.Got.{good}
use Rattle.fields.proofs.All as all
use Rattle.entry.specs.Entry.{Entry, above, is_live}
use Rattle.book.specs.Book.{Book, written, read_book_by, live}
use Rattle.header.specs.Head.{formats}
use Rattle.entry.proofs.Entry.{FineEntry, kind_one}
use Rattle.book.proofs.Book.{FineEntries, reads_back, OneBook, one_book}
use Rattle.fitting.specs.Base.{base_of}
use Rattle.book_laws.proofs.Good.{not_below}

-- ---- THE LIVE ONES, written again, read as the live ones
lower : (format floor least : ℕ) (e : Entry) → least ≤ floor → FineEntry format floor e → FineEntry format least e
lower format floor least e h x = record {
  front = x.front;
  behind = record {
    front = record { small = x.behind.front.small; judged = rw (le-ltb e.body.station least (omega (arith, not_below floor e.body.station x.behind.front.judged))) };
    behind = x.behind.behind;
  };
}

pub live_fines : (format floor least : ℕ) → least ≤ floor → (es : List Entry) → FineEntries format floor es → FineEntries format least (live es)
live_fines format floor least h [] all.none = all.none
live_fines format floor least h (e ∷ es) (all.more x xs) = go (λ low k. live_fines format (above e) low k es xs) (is_live e)
  where
    go : ((low : ℕ) → low ≤ above e → FineEntries format low (live es)) → (t : Bool) → FineEntries format least (cond t (e ∷ live es) (live es))
    go ih true = all.more (lower format floor least e h x) (ih (above e) (omega arith))
    go ih false = ih least (omega (arith, not_below floor e.body.station x.behind.front.judged))

pub live_reads : (judge : ℕ → Option Fault) (l : List ℕ) → Bytes l → (b : Book) (n : ℕ) → read_book_by judge l ≡ good b n
    → read_book_by judge (written b.header (live b.records)) ≡ good (record { header = b.header; records = live b.records }) (length (written b.header (live b.records)))
live_reads judge l bs b n e =
    let o : OneBook judge l b n = one_book judge l bs b n e in
    reads_back judge b.header (live b.records) o.header (live_fines b.header.format 0 0 (omega arith) b.records o.records)

-- ---- a format 1 book has no closed record: closing up leaves it as it is
pub all_live : (format floor : ℕ) → eqb format 1 ≡ true → (es : List Entry) → FineEntries format floor es → live es ≡ es
all_live format floor one [] all.none = refl
all_live format floor one (e ∷ es) (all.more x xs) =
    let c : live (e ∷ es) ≡ e ∷ live es = rw (kind_one format e.kind (eqb-true format 1 one) x.front) in
    c ∙ ap (λ (l : List Entry). e ∷ l) (all_live format (above e) one es xs)

-- ---- FORMAT 1 is added to as before: closing up would leave it as it is, so that both bases are one
pub add_one_base : (room : List ℕ) (len : ℕ) (b : Book) (n : ℕ) → OneBook (formats 1) (take len room) b n → eqb b.header.format 1 ≡ true → base_of true room len b ≡ base_of false room len b
add_one_base room len b n o one =
    let e : live b.records ≡ b.records = all_live b.header.format 0 one b.records o.records in
    let f : written b.header (live b.records) ≡ take len room = ap (written b.header) e ∙ sym o.bytes in
    λ i. record { front = f i; records = e i }
