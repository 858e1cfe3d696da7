-- No public function's promise leaves a choice: for the same arguments, any two results, and any two lent arrays and buffers at exit,
-- that it admits are equal.
use mathlib.Core.Path.{◌≡◌, sym, ◌∙◌}
use borrow.Fn.Kinds.{Dens, res_t, ended_of}
use denote.Triple.Clauses.{AtExit}
use Rattle.simmerquilt.proofs.simmerquilt_encode.Kinds as encode-kinds
use Rattle.simmerquilt.proofs.simmerquilt_encode.Reads as encode
use Rattle.simmerquilt.proofs.simmerquilt_encode_in.Kinds as encode-in-kinds
use Rattle.simmerquilt.proofs.simmerquilt_encode_in.Reads as encode-in
use Rattle.simmerquilt.proofs.simmerquilt_equal.Kinds as equal-kinds
use Rattle.simmerquilt.proofs.simmerquilt_equal.Reads as equal
use Rattle.simmerquilt.proofs.simmerquilt_book_add.Kinds as book-add-kinds
use Rattle.simmerquilt.proofs.simmerquilt_book_add.Reads as book-add
use Rattle.simmerquilt.proofs.simmerquilt_book_append.Kinds as book-append-kinds
use Rattle.simmerquilt.proofs.simmerquilt_book_append.Reads as book-append
use contract.Lifetimes.{Lfts}

-- the word, the two buffers, two numbers and the answer: the buffers at exit are the second and the third, the answer the sixth
module _ (κs : Lfts 4) (a : Dens κs encode-kinds.ps) (x y : (res_t encode-kinds.r κs).Denot) (s t : AtExit (ended_of 4 encode-kinds.ps encode-kinds.r) κs)
    (p : encode.Post κs a x s) (q : encode.Post κs a y t) where
  pub one_numbers : s.1.1.1.1.1.0.now ≡ t.1.1.1.1.1.0.now
  one_numbers = p.0 ∙ sym q.0

  pub one_primary : s.1.0.now ≡ t.1.0.now
  one_primary = p.1.primary ∙ sym q.1.primary

  pub one_alternate : s.1.1.0.now ≡ t.1.1.0.now
  one_alternate = p.1.alternate ∙ sym q.1.alternate

-- the edition's number comes first
module _ (κs : Lfts 4) (a : Dens κs encode-in-kinds.ps) (x y : (res_t encode-in-kinds.r κs).Denot) (s t : AtExit (ended_of 4 encode-in-kinds.ps encode-in-kinds.r) κs)
    (p : encode-in.Post κs a x s) (q : encode-in.Post κs a y t) where
  pub one_numbers_in : s.1.1.1.1.1.1.0.now ≡ t.1.1.1.1.1.1.0.now
  one_numbers_in = p.0 ∙ sym q.0

  pub one_primary_in : s.1.1.0.now ≡ t.1.1.0.now
  one_primary_in = p.1.primary ∙ sym q.1.primary

  pub one_alternate_in : s.1.1.1.0.now ≡ t.1.1.1.0.now
  one_alternate_in = p.1.alternate ∙ sym q.1.alternate

module _ (κs : Lfts 3) (a : Dens κs equal-kinds.ps) (x y : (res_t equal-kinds.r κs).Denot) (s t : AtExit (ended_of 3 equal-kinds.ps equal-kinds.r) κs) where
  pub one_equal : equal.Post κs a x s → equal.Post κs a y t → s.1.1.1.1.1.0.now ≡ t.1.1.1.1.1.0.now
  one_equal p q = p ∙ sym q

module _ (κs : Lfts 3) (a : Dens κs book-add-kinds.ps) (x y : (res_t book-add-kinds.r κs).Denot) (s t : AtExit (ended_of 3 book-add-kinds.ps book-add-kinds.r) κs) where
  pub one_add_numbers : book-add.Post κs a x s → book-add.Post κs a y t → s.1.1.1.1.0.now ≡ t.1.1.1.1.0.now
  one_add_numbers p q = p.0 ∙ sym q.0

  pub one_add_room : book-add.Post κs a x s → book-add.Post κs a y t → s.0.now ≡ t.0.now
  one_add_room p q = p.1 ∙ sym q.1

module _ (κs : Lfts 3) (a : Dens κs book-append-kinds.ps) (x y : (res_t book-append-kinds.r κs).Denot) (s t : AtExit (ended_of 3 book-append-kinds.ps book-append-kinds.r) κs) where
  pub one_append_numbers : book-append.Post κs a x s → book-append.Post κs a y t → s.1.1.1.1.1.1.1.1.0.now ≡ t.1.1.1.1.1.1.1.1.0.now
  one_append_numbers p q = p.0 ∙ sym q.0

  pub one_append_room : book-append.Post κs a x s → book-append.Post κs a y t → s.0.now ≡ t.0.now
  one_append_room p q = p.1 ∙ sym q.1
