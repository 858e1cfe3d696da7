-- Every sequence of bytes is a book or shows one of six faults.
use Prim.Native.Nat.{ℕ}
use mathlib.Core.Path.{◌≡◌, refl, sym}
use mathlib.Core.Bool.{Bool, true, false, cond, ◌&&◌}
use mathlib.Core.List.{List}
use native.Mathlib.Omega.{arith}
use lib.Dec.{ltb, leb, eqb}
use lib.ListN.{drop}
use Rattle.number.specs.Septets.{Bytes}
use Rattle.terms.specs.Limits.{word_limit}
use Rattle.std.specs.Prelude.{Some, None}
use Rattle.terms.specs.declared.Fault.{Fault}
use Rattle.terms.specs.declared.Fault.TheVariants.{TooLong, NotAscii, NotKnown, NotAbove}
use Rattle.keying.proofs.Keyed.{never}
use Rattle.fields.specs.Got.{Got, good, bad, read_both}
use Rattle.fields.specs.Field.{read_number, read_text, any}
use Rattle.fields.proofs.Law.{same_fault}
use Rattle.fields.proofs.Faults.{Only, Judged, only_number, only_text, only_both, only_mapped, only_all}
use Rattle.terms.specs.Editions.{last_edition, last_format}
use Rattle.header.specs.declared.Header.{Header}
use Rattle.entry.specs.Entry.{Entry, rising, record_of, entry_of, read_record, read_kind, read_entry, above}
use Rattle.entry.specs.Kinds.{kinds}
use Rattle.name.specs.Named.{name_length, name_byte}
use Rattle.book.specs.Book.{Book, read_entries, under, behind_header, read_book_by, read_book}
use Rattle.header.specs.Head.{known, formats, editions, header_of, read_header_by}
use Rattle.book_laws.specs.Answers.{is_fault, Answer, reads, shows}
use Rattle.book.proofs.Book.{one_book}

abbrev IsFault : Fault → Type 0
IsFault f = is_fault f ≡ true

no_fault : {f : Fault} → None ≡ Some f → IsFault f
no_fault e = never (sym e)

shown : {g f : Fault} → IsFault g → Some g ≡ Some f → IsFault f
shown {g} {f} p e = let z : f ≡ g = cc in rw z p

-- ---- the judges'
known_fault_lem : (least most : ℕ) → Judged IsFault (known least most)
known_fault_lem least most v f e = go (leb least v && leb v most) e
  where
    go : (p : Bool) → cond p None (Some NotKnown) ≡ Some f → IsFault f
    go true e = no_fault e
    go false e = shown refl e

kinds_fault : Judged IsFault kinds
kinds_fault v f e = go (leb v 1) e
  where
    go : (p : Bool) → cond p None (Some NotKnown) ≡ Some f → IsFault f
    go true e = no_fault e
    go false e = shown refl e

rising_fault : (floor : ℕ) → Judged IsFault (rising floor)
rising_fault floor v f e = go (ltb v floor) e
  where
    go : (p : Bool) → cond p (Some NotAbove) None ≡ Some f → IsFault f
    go true e = shown refl e
    go false e = no_fault e

length_fault : Judged IsFault name_length
length_fault v f e = go (ltb word_limit v) e
  where
    go : (p : Bool) → cond p (Some TooLong) None ≡ Some f → IsFault f
    go true e = shown refl e
    go false e = no_fault e

byte_fault : Judged IsFault name_byte
byte_fault b f e = go (leb 128 b) e
  where
    go : (p : Bool) → cond p (Some NotAscii) None ≡ Some f → IsFault f
    go true e = shown refl e
    go false e = no_fault e

no_judge : Judged IsFault any
no_judge v f e = no_fault e

-- ---- header, record, book
module _ (least : ℕ) where
  header_faults : Only IsFault (read_header_by (formats least))
  unfolding read_header_by
  header_faults =
      let f = only_number IsFault refl refl (formats least) (known_fault_lem least last_format) in
      let e = only_number IsFault refl refl editions (known_fault_lem 1 last_edition) in
      let c = only_number IsFault refl refl any no_judge in
      only_mapped IsFault header_of (read_both (read_number (formats least)) (read_both (read_number editions) (read_number any)))
      (only_both IsFault (read_number (formats least)) (read_both (read_number editions) (read_number any)) f (only_both IsFault (read_number editions) (read_number any) e c))

pub record_faults : (floor : ℕ) → Only IsFault (read_record floor)
unfolding read_record
record_faults floor =
    let code = read_text any any in
    let name = read_text name_length name_byte in
    let c = only_text IsFault refl refl any any no_judge no_judge in
    only_mapped IsFault record_of (read_both (read_number (rising floor)) (read_both name (read_both code code)))
    (only_both IsFault (read_number (rising floor)) (read_both name (read_both code code)) (only_number IsFault refl refl (rising floor) (rising_fault floor))
    (only_both IsFault name (read_both code code) (only_text IsFault refl refl name_length name_byte length_fault byte_fault) (only_both IsFault code code c c)))

kind_faults : (format : ℕ) → Only IsFault (read_kind format)
unfolding read_kind
kind_faults format l f e = go (eqb format 1) e
  where
    go : (t : Bool) → cond t (good 1 0) (read_number kinds l) ≡ bad f → IsFault f
    go true e = let z : ◌≡◌ {A = ℕ} 0 1 = cc in absurd (omega arith)
    go false e = only_number IsFault refl refl kinds kinds_fault l f e

entry_faults : (format floor : ℕ) → Only IsFault (read_entry format floor)
unfolding read_entry
entry_faults format floor =
    only_mapped IsFault entry_of (read_both (read_kind format) (read_record floor)) (only_both IsFault (read_kind format) (read_record floor) (kind_faults format) (record_faults floor))

entries_faults : (format floor : ℕ) → Only IsFault (read_entries format floor)
unfolding read_entries
entries_faults format floor l f e = only_all IsFault (read_entry format) above (entry_faults format) floor 0 l f e

pub book_faults : (least : ℕ) → Only IsFault (read_book_by (formats least))
unfolding read_book_by
book_faults least l f e = go (read_header_by (formats least) l) refl e
  where
    next : (h : Header) (n : ℕ) (y : Got (List Entry)) → ((g : Fault) → y ≡ bad g → IsFault g) → under h n y ≡ bad f → IsFault f
    next h n (bad g) k e = rw (sym (same_fault e)) (k g refl)
    next h n (good es m) k e = let z : ◌≡◌ {A = ℕ} 0 1 = cc in absurd (omega arith)

    go : (x : Got Header) → read_header_by (formats least) l ≡ x → behind_header l x ≡ bad f → IsFault f
    go (bad g) d e = rw (sym (same_fault e)) (header_faults least l g d)
    go (good h n) d e = next h n (read_entries h.format 0 (drop n l)) (entries_faults h.format 0 (drop n l)) e

-- ---- THE READER book-answers for every sequence of bytes
pub book_answers : (l : List ℕ) → Bytes l → Answer l (read_book l)
book_answers l bs = go (read_book l) refl
  where
    go : (x : Got Book) → read_book l ≡ x → Answer l x
    go (good b n) e = rw (one_book (formats 1) l bs b n e).used (reads b)
    go (bad f) e = shows f (book_faults 1 l f e)
