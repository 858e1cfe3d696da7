-- The test of two lists for equality holds exactly where they are equal.
use Prim.Native.Nat.{ℕ}
use mathlib.Core.Path.{◌≡◌, refl}
use mathlib.Core.Bool.{true}
use mathlib.Core.List.{List, [], ◌∷◌}
use borrow.Author.Tests.{eqb-true, eq-eqb}
use lib.Dec.{eqb}
use Rattle.basics.specs.Same.{same}
use Rattle.basics.proofs.Tests.{both}

pub same_true : (xs ys : List ℕ) → same xs ys ≡ true → xs ≡ ys
unfolding same
same_true [] [] e = refl
same_true [] (y ∷ ys) e = cc e
same_true (x ∷ xs) [] e = cc e
same_true (x ∷ xs) (y ∷ ys) e =
    let h = both (eqb x y) (same xs ys) e in
    cc (eqb-true x y h.0, same_true xs ys h.1)

pub same_refl : (xs : List ℕ) → same xs xs ≡ true
unfolding same
same_refl [] = refl
same_refl (x ∷ xs) = simp (eq-eqb x x refl, same_refl xs)
