-- No public function's promise leaves a choice: for the same arguments, any two results that it admits are equal.
use mathlib.Core.Path.{sym, ◌∙◌, ◌≡◌}
use borrow.Fn.Kinds.{Dens, res_t, ended_of}
use denote.Triple.Clauses.{AtExit}
use Rattle.basics.proofs.Choice.{OneResult}
use Rattle.slices.proofs.least.Kinds as least-kinds
use Rattle.slices.proofs.least.Reads as least
use Rattle.slices.proofs.bytes_of.Kinds as bytes-of-kinds
use Rattle.slices.proofs.bytes_of.Reads as bytes_of
use Rattle.slices.proofs.left_from.Kinds as left-from-kinds
use Rattle.slices.proofs.left_from.Reads as left-from
use contract.Lifetimes.{Lfts}

pub one_least : OneResult least-kinds.ps least-kinds.r least.Post
one_least κs a x y s t p q = p ∙ sym q

pub one_left_from : OneResult left-from-kinds.ps left-from-kinds.r left-from.Post
one_left_from κs a x y s t p q = p ∙ sym q

module _ (κs : Lfts 1) (a : Dens κs bytes-of-kinds.ps) (x y : (res_t bytes-of-kinds.r κs).Denot) (s t : AtExit (ended_of 1 bytes-of-kinds.ps bytes-of-kinds.r) κs) where
  pub one_bytes_of : bytes_of.Post κs a x s → bytes_of.Post κs a y t → x.now ≡ y.now
  one_bytes_of p q = p ∙ sym q
