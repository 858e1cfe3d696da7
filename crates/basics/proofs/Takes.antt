-- As many of a list's first members as there are.
use Prim.Native.Nat.{ℕ, min}
use mathlib.Core.Path.{◌≡◌, refl, sym, ap, ◌∙◌}
use mathlib.Core.Bool.{Bool, true, false}
use mathlib.Core.List.{List}
use native.Mathlib.Omega.{arith}
use borrow.Author.Tests.{leb-true, leb-false}
use lib.Dec.{leb}
use lib.ListN.{length, take}
use lib.Seq.{take_all}

pub take_least : (k : ℕ) (w : List ℕ) → take (min k (length w)) w ≡ take k w
take_least k w = go (leb k (length w)) refl
  where
    go : (t : Bool) → leb k (length w) ≡ t → take (min k (length w)) w ≡ take k w
    go true h = let e : min k (length w) ≡ k = omega (arith, leb-true k (length w) h) in ap (λ (n : ℕ). take n w) e
    go false h =
        let e : min k (length w) ≡ length w = omega (arith, leb-false k (length w) h) in
        ap (λ (n : ℕ). take n w) e ∙ take_all (length w) w (omega arith) ∙ sym (take_all k w (omega (arith, leb-false k (length w) h)))
