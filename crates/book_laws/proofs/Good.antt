-- The two theorems of the book in plain terms.
use Prim.Native.Nat.{ℕ, suc, ◌≤◌}
use mathlib.Core.Path.{◌≡◌, refl}
use mathlib.Core.Bool.{Bool, true, false, cond, ◌&&◌}
use mathlib.Core.List.{List, [], ◌∷◌}
use native.Mathlib.Omega.{arith}
use borrow.Author.Tests.{le-ltb, ltb-false, leb-true, eqb-true}
use lib.Dec.{ltb, leb, eqb}
use lib.ListN.{length}
use Rattle.number.specs.Septets.{Bytes}
use Rattle.terms.specs.Limits.{word_limit}
use Rattle.ascii.specs.High.{first_high}
use Rattle.std.specs.Prelude.{Some, None}
use Rattle.terms.specs.declared.Fault.TheVariants.{TooLong, NotAscii, NotKnown, NotAbove}
use Rattle.fields.specs.Got.{good}
use Rattle.fields.specs.Field.{first, fault_in}
use Rattle.keying.proofs.Keyed.{never}
use Rattle.fields.proofs.Forms.{none_in}
use Rattle.terms.specs.Editions.{last_edition, last_format}
use Rattle.header.specs.declared.Header.{Header}
use Rattle.entry.specs.Entry.{Record, Entry, rising, above}
use Rattle.name.specs.Named.{name_length, name_byte}
use Rattle.book.specs.Book.{Book, written, read_book}
use Rattle.header.specs.Head.{known, formats}
use Rattle.header.proofs.Head.{FineHeader, known_good}
use Rattle.entry.proofs.Entry.{FineRecord, FineKind, unspelt, spelt, kind_low, kind_one}
use Rattle.book.proofs.Book.{FineEntries, reads_back, OneBook, one_book}
use Rattle.entry.proofs.Records.{kind_good}
use Rattle.book_laws.specs.Good.{GoodHeader, GoodRecord, GoodRecords, none, more}
use Rattle.fields.proofs.All as all

-- ---- a name without a high byte shows no fault
pub clean : (w : List ℕ) → length w ≤ first_high w → fault_in name_byte w ≡ None
clean [] h = refl
clean (b ∷ w) h = go (leb 128 b) (clean w) h
  where
    go : (t : Bool) → (length w ≤ first_high w → fault_in name_byte w ≡ None) → suc (length w) ≤ cond t 0 (suc (first_high w))
        → first (cond t (Some NotAscii) None) (fault_in name_byte w) ≡ None
    go true ih h = absurd (omega arith)
    go false ih h = ih (omega arith)

-- ---- from plain terms to the judges'
header_fine : (h : Header) → GoodHeader h → FineHeader (formats 1) h
header_fine h x = record {
  front = record { small = omega (arith, x.format.1); judged = known_good 1 last_format h.format x.format.0 x.format.1 };
  behind = record {
    front = record { small = omega (arith, x.edition.1); judged = known_good 1 last_edition h.edition x.edition.0 x.edition.1 };
    behind = record { small = x.cut; judged = refl };
  };
}

record_fine : (floor : ℕ) (r : Record) → GoodRecord floor r → FineRecord floor r
record_fine floor r x = record {
  front = record { small = x.station; judged = rw (le-ltb r.station floor x.rises) };
  behind = record {
    front = record { long = record { small = omega (arith, x.long); judged = rw (le-ltb word_limit (length r.name) x.long) }; clean = clean r.name x.ascii };
    behind = record {
      front = record { long = record { small = x.primary; judged = refl }; clean = none_in r.primary };
      behind = record { long = record { small = x.alternate; judged = refl }; clean = none_in r.alternate };
    };
  };
}

kind_fine : (format k : ℕ) → k ≤ 1 → (format ≡ 1 → k ≡ 1) → FineKind format k
kind_fine format k h z = go (eqb format 1) refl
  where
    go : (t : Bool) → eqb format 1 ≡ t → FineKind format k
    go true e = unspelt e (z (eqb-true format 1 e))
    go false e = spelt e (record { small = omega arith; judged = kind_good k h })

records_fine : (format floor : ℕ) (es : List Entry) → GoodRecords format floor es → FineEntries format floor es
records_fine format floor [] none = all.none
records_fine format floor (e ∷ es) (more x xs) =
    all.more (record { front = kind_fine format e.kind x.kind x.one; behind = record_fine floor e.body x.body }) (records_fine format (above e) es xs)

-- ---- and back
pub is_known : (least most v : ℕ) → known least most v ≡ None → (least ≤ v) × (v ≤ most)
is_known least most v e = go (leb least v) refl (leb v most) refl e
  where
    go : (p : Bool) → leb least v ≡ p → (q : Bool) → leb v most ≡ q → cond (p && q) None (Some NotKnown) ≡ None → (least ≤ v) × (v ≤ most)
    go false d q f e = never e
    go true d false f e = never e
    go true d true f e = (leb-true least v d, leb-true v most f)

pub not_below : (floor v : ℕ) → rising floor v ≡ None → floor ≤ v
not_below floor v e = go (ltb v floor) refl e
  where
    go : (p : Bool) → ltb v floor ≡ p → cond p (Some NotAbove) None ≡ None → floor ≤ v
    go true d e = never e
    go false d e = ltb-false _ _ d

not_long : (n : ℕ) → name_length n ≡ None → n ≤ word_limit
not_long n e = go (ltb word_limit n) refl e
  where
    go : (p : Bool) → ltb word_limit n ≡ p → cond p (Some TooLong) None ≡ None → n ≤ word_limit
    go true d e = never e
    go false d e = ltb-false _ _ d

no_high : (w : List ℕ) → fault_in name_byte w ≡ None → length w ≤ first_high w
no_high [] e = omega arith
no_high (b ∷ w) e = go (leb 128 b) (no_high w) e
  where
    go : (t : Bool) → (fault_in name_byte w ≡ None → length w ≤ first_high w) → first (cond t (Some NotAscii) None) (fault_in name_byte w) ≡ None
        → suc (length w) ≤ cond t 0 (suc (first_high w))
    go true ih e = never e
    go false ih e = omega (arith, ih e)

header_good : (h : Header) → FineHeader (formats 1) h → GoodHeader h
header_good h x = record {
  format = is_known 1 last_format h.format x.front.judged;
  edition = is_known 1 last_edition h.edition x.behind.front.judged;
  cut = x.behind.behind.small;
}

record_good : (floor : ℕ) (r : Record) → FineRecord floor r → GoodRecord floor r
record_good floor r x = record {
  rises = not_below floor r.station x.front.judged;
  station = x.front.small;
  long = not_long (length r.name) x.behind.front.long.judged;
  ascii = no_high r.name x.behind.front.clean;
  primary = x.behind.behind.front.long.small;
  alternate = x.behind.behind.behind.long.small;
}

records_good : (format floor : ℕ) (es : List Entry) → FineEntries format floor es → GoodRecords format floor es
records_good format floor [] all.none = none
records_good format floor (e ∷ es) (all.more x xs) =
    more (record { kind = kind_low format e.kind x.front; one = λ z. kind_one format e.kind z x.front; body = record_good floor e.body x.behind }) (records_good format (above e) es xs)

-- ---- reading a written book gives its header and records back
pub book_round_trip : (h : Header) (es : List Entry) → GoodHeader h → GoodRecords h.format 0 es → read_book (written h es) ≡ good (record { header = h; records = es }) (length (written h es))
book_round_trip h es x xs = reads_back (formats 1) h es (header_fine h x) (records_fine h.format 0 es xs)

-- ---- bytes that read as a book are the writing of what they read as, and that is good
pub record Reads (l : List ℕ) (b : Book) : Type 0 where
  pub bytes : l ≡ written b.header b.records
  pub header : GoodHeader b.header
  pub records : GoodRecords b.header.format 0 b.records

pub book_only : (l : List ℕ) → Bytes l → (b : Book) (n : ℕ) → read_book l ≡ good b n → Reads l b
book_only l bs b n e =
    let o : OneBook (formats 1) l b n = one_book (formats 1) l bs b n e in
    record { bytes = o.bytes; header = header_good b.header o.header; records = records_good b.header.format 0 b.records o.records }
