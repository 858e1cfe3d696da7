-- Two writings into one list, one behind the other, are one.
use Prim.Native.Nat.{ℕ, suc, ◌+◌}
use mathlib.Core.Path.{◌≡◌, ap, ◌∙◌}
use mathlib.Core.List.{List, [], ◌∷◌, ◌++◌}
use native.Mathlib.Omega.{arith}
use lib.ListN.{length, set}
use lib.Seq.{sets}

pub sets_append : (x l y : List ℕ) (at : ℕ) → sets (sets l at x) (at + length x) y ≡ sets l at (x ++ y)
sets_append [] l y at = ap (λ (k : ℕ). sets l k y) (omega arith)
sets_append (v ∷ x) l y at =
    let e : at + suc (length x) ≡ suc at + length x = omega arith in
    ap (λ (k : ℕ). sets (sets (set l at v) (suc at) x) k y) e ∙ sets_append x (set l at v) y (suc at)
