-- No public function's promise leaves a choice: for the same arguments, any two results, and any two lent arrays and buffers at exit,
-- that it admits are equal.
use mathlib.Core.Path.{◌≡◌, sym, ◌∙◌}
use borrow.Fn.Kinds.{Dens, res_t, ended_of}
use denote.Triple.Clauses.{AtExit}
use Rattle.books.proofs.simmerquilt_book_start.Kinds as book-start-kinds
use Rattle.books.proofs.simmerquilt_book_start.Reads as book-start
use Rattle.books.proofs.simmerquilt_book_open.Kinds as book-open-kinds
use Rattle.books.proofs.simmerquilt_book_open.Reads as book-open
use Rattle.books.proofs.simmerquilt_book_next.Kinds as book-next-kinds
use Rattle.books.proofs.simmerquilt_book_next.Reads as book-next
use Rattle.books.proofs.simmerquilt_book_read.Kinds as book-read-kinds
use Rattle.books.proofs.simmerquilt_book_read.Reads as book-read
use Rattle.books.proofs.simmerquilt_book_close.Kinds as book-close-kinds
use Rattle.books.proofs.simmerquilt_book_close.Reads as book-close
use contract.Lifetimes.{Lfts}

-- the book's: the answer at exit is the last, the room the first
module _ (κs : Lfts 2) (a : Dens κs book-start-kinds.ps) (x y : (res_t book-start-kinds.r κs).Denot) (s t : AtExit (ended_of 2 book-start-kinds.ps book-start-kinds.r) κs) where
  pub one_start_numbers : book-start.Post κs a x s → book-start.Post κs a y t → s.1.1.1.0.now ≡ t.1.1.1.0.now
  one_start_numbers p q = p.0 ∙ sym q.0

  pub one_start_room : book-start.Post κs a x s → book-start.Post κs a y t → s.0.now ≡ t.0.now
  one_start_room p q = p.1 ∙ sym q.1

module _ (κs : Lfts 2) (a : Dens κs book-open-kinds.ps) (x y : (res_t book-open-kinds.r κs).Denot) (s t : AtExit (ended_of 2 book-open-kinds.ps book-open-kinds.r) κs) where
  pub one_open_numbers : book-open.Post κs a x s → book-open.Post κs a y t → s.1.0.now ≡ t.1.0.now
  one_open_numbers p q = p ∙ sym q

module _ (κs : Lfts 2) (a : Dens κs book-next-kinds.ps) (x y : (res_t book-next-kinds.r κs).Denot) (s t : AtExit (ended_of 2 book-next-kinds.ps book-next-kinds.r) κs) where
  pub one_next_numbers : book-next.Post κs a x s → book-next.Post κs a y t → s.1.1.1.1.1.0.now ≡ t.1.1.1.1.1.0.now
  one_next_numbers p q = p ∙ sym q

module _ (κs : Lfts 2) (a : Dens κs book-read-kinds.ps) (x y : (res_t book-read-kinds.r κs).Denot) (s t : AtExit (ended_of 2 book-read-kinds.ps book-read-kinds.r) κs) where
  pub one_read_numbers : book-read.Post κs a x s → book-read.Post κs a y t → s.1.0.now ≡ t.1.0.now
  one_read_numbers p q = p ∙ sym q

module _ (κs : Lfts 2) (a : Dens κs book-close-kinds.ps) (x y : (res_t book-close-kinds.r κs).Denot) (s t : AtExit (ended_of 2 book-close-kinds.ps book-close-kinds.r) κs) where
  pub one_close_numbers : book-close.Post κs a x s → book-close.Post κs a y t → s.1.1.1.0.now ≡ t.1.1.1.0.now
  one_close_numbers p q = p.0 ∙ sym q.0

  pub one_close_room : book-close.Post κs a x s → book-close.Post κs a y t → s.0.now ≡ t.0.now
  one_close_room p q = p.1 ∙ sym q.1
