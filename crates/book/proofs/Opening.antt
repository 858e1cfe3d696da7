-- The header and the whole book, from what the readers below answer.
use Prim.Native.Nat.{ℕ, ◌+◌}
use mathlib.Core.Path.{◌≡◌, refl, sym, ap, ◌∙◌}
use mathlib.Core.List.{List}
use native.Mathlib.Omega.{arith}
use lib.ListN.{length, drop}
use Rattle.std.specs.Prelude.{Option, Ok, Err}
use Rattle.terms.specs.declared.Fault.{Fault}
use Rattle.header.specs.declared.Opened.{Opened}
use Rattle.book.specs.declared.Whole.{Whole}
use Rattle.fields.specs.Got.{Got, good, bad}
use Rattle.book.specs.declared.Measure.{Measure}
use Rattle.header.specs.declared.Header.{Header}
use Rattle.entry.specs.Entry.{Entry}
use Rattle.book.specs.Book.{Book, read_entries, read_book_by}
use Rattle.header.specs.Head.{header_bytes, read_header_by, opened_by}
use Rattle.book.specs.Told.{measured, unmeasured, surveyed, whole_by}
use Rattle.header.proofs.Head.{header_law}
use Rattle.book.proofs.Book.{Laid, laid}
use Rattle.header.proofs.Opening.{OpenTold, open_told, open_fault}

-- ---- the book
module _ (judge : ℕ → Option Fault) (s : List ℕ) where
  book_good : (h : Header) (n : ℕ) (es : List Entry) (m : ℕ) → read_header_by judge s ≡ good h n → read_entries h.format 0 (drop n s) ≡ good es m
      → read_book_by judge s ≡ good (record { header = h; records = es }) (n + m)
  unfolding read_book_by
  book_good h n es m e d = rw (e, d)

  records_bad : (h : Header) (n : ℕ) (f : Fault) → read_header_by judge s ≡ good h n → read_entries h.format 0 (drop n s) ≡ bad f → read_book_by judge s ≡ bad f
  unfolding read_book_by
  records_bad h n f e d = rw (e, d)

  header_bad : (f : Fault) → read_header_by judge s ≡ bad f → read_book_by judge s ≡ bad f
  unfolding read_book_by
  header_bad f e = rw e

  module _ (o : Opened) (p : opened_by (read_header_by judge s) ≡ Ok o) where
    abbrev h : Header
    h = o.header

    abbrev at : ℕ
    at = o.first.at

    pub reads : (m : Measure) → surveyed h.format unmeasured (read_entries h.format 0 (drop at s)) ≡ Ok m → Ok (record { header = h; first = at; measure = m }) ≡ whole_by (read_book_by judge s)
    reads m q = go (read_entries h.format 0 (drop at s)) refl q
      where
        x : OpenTold o (read_header_by judge s)
        x = open_told o (read_header_by judge s) p

        go : (y : Got (List Entry)) → read_entries h.format 0 (drop at s) ≡ y → surveyed h.format unmeasured y ≡ Ok m → Ok (record { header = h; first = at; measure = m }) ≡ whole_by (read_book_by judge s)
        go (bad f) d e = let z : ◌≡◌ {A = ℕ} 0 1 = cc in absurd (omega arith)
        go (good es k) d e =
            let u : at ≡ length (header_bytes h) = x.place ∙ (header_law judge).used s h x.n x.is in
            let v : m ≡ measured h.format unmeasured es = (let v' : measured h.format unmeasured es ≡ m = cc in sym v') in
            (λ i. Ok (record { header = h; first = u i; measure = v i }))
            ∙ sym (ap whole_by (book_good h x.n es k x.is (ap (λ (j : ℕ). read_entries h.format 0 (drop j s)) (sym x.place) ∙ d)))

    pub reads_bad : (g : Fault) → surveyed h.format unmeasured (read_entries h.format 0 (drop at s)) ≡ Err g → Err g ≡ whole_by (read_book_by judge s)
    reads_bad g q = go (read_entries h.format 0 (drop at s)) refl q
      where
        x : OpenTold o (read_header_by judge s)
        x = open_told o (read_header_by judge s) p

        go : (y : Got (List Entry)) → read_entries h.format 0 (drop at s) ≡ y → surveyed h.format unmeasured y ≡ Err g → Err g ≡ whole_by (read_book_by judge s)
        go (good es k) d e = let z : ◌≡◌ {A = ℕ} 0 1 = cc in absurd (omega arith)
        go (bad f) d e =
            let v : g ≡ f = cc in
            ap Err v ∙ sym (ap whole_by (records_bad h x.n f x.is (ap (λ (j : ℕ). read_entries h.format 0 (drop j s)) (sym x.place) ∙ d)))

  pub unopened : (g : Fault) → opened_by (read_header_by judge s) ≡ Err g → Err g ≡ whole_by (read_book_by judge s)
  unopened g p = sym (ap whole_by (header_bad g (open_fault g (read_header_by judge s) p)))

-- ---- a book that was told whole
pub record WholeTold (judge : ℕ → Option Fault) (s : List ℕ) (w : Whole) : Type 0 where
  pub b : Book
  pub n : ℕ
  pub used : ℕ
  pub is : read_book_by judge s ≡ good b n
  pub header : b.header ≡ w.header
  pub first : w.first ≡ length (header_bytes b.header)
  pub measures : w.measure ≡ measured b.header.format unmeasured b.records
  pub records : read_entries b.header.format 0 (drop (length (header_bytes b.header)) s) ≡ good b.records used

pub whole_told : (judge : ℕ → Option Fault) (s : List ℕ) (w : Whole) → whole_by (read_book_by judge s) ≡ Ok w → WholeTold judge s w
whole_told judge s w p = go (read_book_by judge s) refl p
  where
    go : (y : Got Book) → read_book_by judge s ≡ y → whole_by y ≡ Ok w → WholeTold judge s w
    go (bad f) d e = let z : ◌≡◌ {A = ℕ} 0 1 = cc in absurd (omega arith)
    go (good b n) d e =
        let l : Laid judge s b = laid judge s b n d in
        let v : ◌≡◌ {A = Whole} (record { header = b.header; first = length (header_bytes b.header); measure = measured b.header.format unmeasured b.records }) w = cc in
        record {
          b = b;
          n = n;
          is = d;
          header = ap (λ (y : Whole). y.header) v;
          first = ap (λ (y : Whole). y.first) (sym v);
          measures = ap (λ (y : Whole). y.measure) (sym v);
          used = l.n;
          records = l.records;
        }

pub whole_fault : (f : Fault) (x : Got Book) → whole_by x ≡ Err f → x ≡ bad f
whole_fault f (bad g) e = let k : g ≡ f = cc in ap (λ (y : Fault). bad y) k
whole_fault f (good b n) e = let z : ◌≡◌ {A = ℕ} 0 1 = cc in absurd (omega arith)
