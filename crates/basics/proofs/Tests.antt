-- Tests that hold and tests that fail, taken apart.
use Prim.Native.Nat.{ℕ}
use mathlib.Core.Logic.{◌⊎◌, inl, inr}
use mathlib.Core.Path.{◌≡◌, refl, sym}
use mathlib.Core.Bool.{Bool, true, false, ◌&&◌, ◌||◌}
use native.Mathlib.Omega.{arith}
use borrow.Author.Tests.{eqb-true, eqb-false, eq-eqb, ne_eqb}
use lib.Dec.{eqb}

pub no : (b : Bool) → (b ≡ true → ⊥) → b ≡ false
no true h = absurd (h refl)
no false h = refl

-- the two halves of a test that is an `&&`
pub both : (a b : Bool) → (a && b) ≡ true → (a ≡ true) × (b ≡ true)
both true b e = (refl, e)
both false b e = absurd (let z : ◌≡◌ {A = ℕ} 0 1 = cc e in omega arith)

-- and of one that is an `||`
pub either : (a b : Bool) → (a || b) ≡ true → (Q : Type 0) → (a ≡ true → Q) → (b ≡ true → Q) → Q
either true b e Q f g = f refl
either false b e Q f g = g e

-- neither half of an `||` that fails holds
pub neither : (a b : Bool) → (a || b) ≡ false → (a ≡ false) × (b ≡ false)
neither true b e = absurd (let z : ◌≡◌ {A = ℕ} 0 1 = cc e in omega arith)
neither false b e = (refl, e)

-- two tests that hold make an `&&` that does
pub also : (a b : Bool) → a ≡ true → b ≡ true → (a && b) ≡ true
also a b h k = simp (h, k)

pub same_test : (a b c d : ℕ) (t : Bool) → eqb a b ≡ t → (a ≡ b → c ≡ d) → (c ≡ d → a ≡ b) → t ≡ eqb c d
same_test a b c d true e f g = sym (eq-eqb c d (f (eqb-true a b e)))
same_test a b c d false e f g = sym (ne_eqb c d (λ q. eqb-false a b e (g q)))

pub decided : (t : Bool) → (t ≡ true) ⊎ (t ≡ false)
decided true = inl refl
decided false = inr refl
