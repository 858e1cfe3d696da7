-- What the library's `==` of two slices says is the test of basics.
use Rattle.std.proofs.Common.{◌≡◌, ℕ, List, [], ◌∷◌, ◌&&◌, Bool, refl, ap, eqb}
use Rattle.std.specs.Cmp.Lexicographic.{pointwise}
use Rattle.basics.specs.Same.{same}

pub same_pointwise : (x y : List ℕ) → pointwise eqb x y ≡ same x y
unfolding same
same_pointwise [] [] = refl
same_pointwise [] (b ∷ y) = refl
same_pointwise (a ∷ x) [] = refl
same_pointwise (a ∷ x) (b ∷ y) = ap (λ (q : Bool). eqb a b && q) (same_pointwise x y)
