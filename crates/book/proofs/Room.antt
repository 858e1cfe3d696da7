-- A book in the first bytes of lent room, from what reading those that are there tells.
use Prim.Native.Nat.{ℕ, ◌≤◌, ◌<◌, min}
use mathlib.Core.Path.{◌≡◌, refl, sym, ap, ◌∙◌}
use mathlib.Core.Bool.{Bool, true, false}
use mathlib.Core.List.{List}
use native.Mathlib.Omega.{arith}
use borrow.Author.Tests.{lt-ltb, le-ltb, ltb-false}
use lib.Dec.{ltb}
use lib.ListN.{length, take}
use Rattle.fields.specs.Got.{Got, good, bad}
use Rattle.std.specs.Prelude.{Option, Ok, Err}
use Rattle.terms.specs.declared.Fault.{Fault}
use Rattle.terms.specs.declared.Fault.TheVariants.{BookEnds}
use Rattle.book.specs.declared.Whole.{Whole}
use Rattle.book.specs.Book.{Book, read_book_by}
use Rattle.book.specs.Told.{whole_by}
use Rattle.basics.proofs.Takes.{take_least}
use Rattle.book.specs.Room.{shortened, read_in_by}
use Rattle.fields.proofs.Law.{never}

module _ (judge : ℕ → Option Fault) (room : List ℕ) (len there : ℕ) (t : there ≡ min len (length room)) where
  -- the book is what is there of its stated bytes
  by_read : (q : Bool) → ltb (length room) len ≡ q → whole_by (shortened q (read_book_by judge (take there room))) ≡ whole_by (read_in_by judge room len)
  unfolding read_in_by
  by_read q d =
      ap (λ (y : Bool). whole_by (shortened y (read_book_by judge (take there room)))) (sym d)
      ∙ ap (λ (l : List ℕ). whole_by (shortened (ltb (length room) len) (read_book_by judge l))) (ap (λ (k : ℕ). take k room) t ∙ take_least len room)

  fault_kept : (f : Fault) (x : Got Book) → whole_by x ≡ Err f → (q : Bool) → Err f ≡ whole_by (shortened q x)
  fault_kept f (good b n) e q = let z : ◌≡◌ {A = ℕ} 0 1 = cc in absurd (omega arith)
  fault_kept f (bad g) e true = let k : f ≡ g = cc in ap Err k
  fault_kept f (bad g) e false = let k : f ≡ g = cc in ap Err k

  book_short : (w : Whole) (x : Got Book) → whole_by x ≡ Ok w → Err BookEnds ≡ whole_by (shortened true x)
  book_short w (bad g) e = let z : ◌≡◌ {A = ℕ} 0 1 = cc in absurd (omega arith)
  book_short w (good b n) e = refl

  pub in_bad : (f : Fault) → whole_by (read_book_by judge (take there room)) ≡ Err f → Err f ≡ whole_by (read_in_by judge room len)
  in_bad f e = fault_kept f (read_book_by judge (take there room)) e (ltb (length room) len) ∙ by_read (ltb (length room) len) refl

  module _ (w : Whole) (e : whole_by (read_book_by judge (take there room)) ≡ Ok w) where
    pub in_short : length room < len → Err BookEnds ≡ whole_by (read_in_by judge room len)
    in_short l = book_short w (read_book_by judge (take there room)) e ∙ by_read true (lt-ltb (length room) len l)

    pub in_good : len ≤ length room → Ok w ≡ whole_by (read_in_by judge room len)
    in_good l = sym e ∙ by_read false (le-ltb (length room) len l)

-- a book that was told lies in the room
pub record Inside (judge : ℕ → Option Fault) (room : List ℕ) (len : ℕ) (w : Whole) : Type 0 where
  pub fits : len ≤ length room
  pub told : whole_by (read_book_by judge (take len room)) ≡ Ok w
  pub same : read_in_by judge room len ≡ read_book_by judge (take len room)

pub inside : (judge : ℕ → Option Fault) (room : List ℕ) (len : ℕ) (w : Whole) → whole_by (read_in_by judge room len) ≡ Ok w → Inside judge room len w
unfolding read_in_by
inside judge room len w e = go (ltb (length room) len) refl (read_book_by judge (take len room)) refl e
  where
    go : (q : Bool) → ltb (length room) len ≡ q → (x : Got Book) → read_book_by judge (take len room) ≡ x → whole_by (shortened q x) ≡ Ok w → Inside judge room len w
    go true d (good b n) f p = let z : ◌≡◌ {A = ℕ} 0 1 = cc in absurd (omega arith)
    go true d (bad g) f p = let z : ◌≡◌ {A = ℕ} 0 1 = cc in absurd (omega arith)
    go false d x f p = record {
      fits = ltb-false (length room) len d;
      told = ap whole_by f ∙ p;
      same = ap (λ (q : Bool). shortened q (read_book_by judge (take len room))) d;
    }

-- ---- a book that was read in the room lies in it, and goes on without a fault
pub record Lies (judge : ℕ → Option Fault) (room : List ℕ) (len : ℕ) (b : Book) (n : ℕ) : Type 0 where
  pub fits : len ≤ length room
  pub reads : read_book_by judge (take len room) ≡ good b n

pub lies : (judge : ℕ → Option Fault) (room : List ℕ) (len : ℕ) (b : Book) (n : ℕ) → read_in_by judge room len ≡ good b n → Lies judge room len b n
unfolding read_in_by
lies judge room len b n e = go (ltb (length room) len) refl (read_book_by judge (take len room)) refl e
  where
    go : (q : Bool) → ltb (length room) len ≡ q → (x : Got Book) → read_book_by judge (take len room) ≡ x → shortened q x ≡ good b n → Lies judge room len b n
    go true d (good c m) f p = never p
    go true d (bad g) f p = never p
    go false d x f p = record { fits = ltb-false (length room) len d; reads = f ∙ p }
