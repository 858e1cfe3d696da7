-- `copying::copy_to` meets its contract. The invariant: storing what is left gives what storing all of `src` gives.
use Prim.Native.Nat.{ℕ, ◌+◌}
use mathlib.Core.List.{[], ◌∷◌}
use mathlib.Core.Path.{◌≡◌, refl, ap}
use native.Mathlib.Omega.{arith}
use native.Mathlib.Numerals.{add-one}
use lib.Seq.{sets, drop-cons}
use lib.ListN.{drop, get_or, length-set, drop_of_length-le}
use Rattle.copying.proofs.Copies.{copied}
use Rattle.copying.proofs.copy_to.Goals as goal

pub loop-i-init : goal.loop-i-init
loop-i-init c =
    let a = c.args in
    (refl, ap (λ (k : ℕ). sets a.out.now k a.src.now) (omega arith))

pub loop-i-preserved : goal.loop-i-preserved
loop-i-preserved c =
    let a = c.args in
    let l = c.loop-i in
    let d : drop l.i a.src.now ≡ get_or a.src.now l.i 0 ∷ drop (l.i + 1) a.src.now = rw (add-one l.i) (drop-cons a.src.now l.i 0 (omega arith)) in
    (simp length-set l.invariant.0, copied l.out a.src.now a.at l.i _ _ (omega arith) d l.invariant.1)

pub returns : goal.returns
returns c =
    let e : drop c.loop-i.i c.args.src.now ≡ [] = drop_of_length-le c.args.src.now (omega arith) in
    rw e at c.loop-i.invariant.1
