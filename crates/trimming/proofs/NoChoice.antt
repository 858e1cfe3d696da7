-- No public function's promise leaves a choice: for the same arguments, any two results that it admits are equal; of the part
-- that `trimmed` hands back, its bytes.
use Prim.Native.Nat.{ℕ, ◌-◌, ◌≤◌, min}
use mathlib.Core.Path.{◌≡◌, sym, ap, ◌∙◌}
use mathlib.Core.List.{List}
use native.Mathlib.Omega.{arith}
use borrow.Fn.Kinds.{Dens, res_t, ended_of}
use denote.Triple.Clauses.{AtExit}
use lib.ListN.{length, take, drop, length-take, length-drop}
use Rattle.basics.proofs.Choice.{OneResult}
use Rattle.trimming.proofs.trimmed.Kinds as trimmed-kinds
use Rattle.trimming.proofs.trimmed.Reads as trimmed
use Rattle.trimming.proofs.front.Kinds as front-kinds
use Rattle.trimming.proofs.front.Reads as front
use Rattle.trimming.proofs.back.Kinds as back-kinds
use Rattle.trimming.proofs.back.Reads as back
use contract.Lifetimes.{Lfts}

module _ (κs : Lfts 1) (a : Dens κs trimmed-kinds.ps) (x y : (res_t trimmed-kinds.r κs).Denot) (s t : AtExit (ended_of 1 trimmed-kinds.ps trimmed-kinds.r) κs) where
  pub one_trimmed : trimmed.Post κs a x s → trimmed.Post κs a y t → x.now ≡ y.now
  one_trimmed p q = p ∙ sym q

-- a place is told by how much is left behind it, or by how much stands before it
one_start : (w : List ℕ) (x y : ℕ) → x ≤ length w → y ≤ length w → drop x w ≡ drop y w → x ≡ y
one_start w x y h k e =
    let d : length w - x ≡ length w - y = sym (length-drop x w) ∙ ap length e ∙ length-drop y w in
    omega (arith, d)

one_end : (w : List ℕ) (x y : ℕ) → x ≤ length w → y ≤ length w → take x w ≡ take y w → x ≡ y
one_end w x y h k e =
    let d : min x (length w) ≡ min y (length w) = sym (length-take x w) ∙ ap length e ∙ length-take y w in
    omega (arith, d)

pub one_front : OneResult front-kinds.ps front-kinds.r front.Post
one_front κs a x y s t p q = one_start _ x y p.0 q.0 (p.1 ∙ sym q.1)

pub one_back : OneResult back-kinds.ps back-kinds.r back.Post
one_back κs a x y s t p q = one_end _ x y p.0 q.0 (p.1 ∙ sym q.1)
