-- Additions clipped to a limit n, written from `len` on.
use Prim.Native.Nat.{ℕ, suc, ◌+◌, ◌-◌, ◌≤◌, ◌<◌}
use mathlib.Core.Path.{◌≡◌, ap, ◌∙◌}
use mathlib.Core.List.{List, [], ◌∷◌}
use native.Mathlib.Numerals.{add-one}
use native.Mathlib.Omega.{arith}
use lib.ListN.{take, set}
use lib.Seq.{sets, take-nil}

-- at the limit nothing is written
pub clip_none : (n len : ℕ) (xs : List ℕ) → n ≤ len → take (n - len) xs ≡ []
clip_none n len xs h = let e : n - len ≡ 0 = omega arith in rw e

-- below it the first byte is
pub clip_some : (n len x : ℕ) (xs : List ℕ) → len < n → take (n - len) (x ∷ xs) ≡ x ∷ take (n - (len + 1)) xs
clip_some n len x xs h = let e : n - len ≡ suc (n - (len + 1)) = omega arith in rw e

pub clip_last : (n len x : ℕ) → len < n → take (n - len) (x ∷ []) ≡ x ∷ []
clip_last n len x h = clip_some n len x [] h ∙ ap (λ (l : List ℕ). x ∷ l) (take-nil (n - (len + 1)))

-- two bytes written one after the other are written together
pub together : (n len x y : ℕ) (b : List ℕ) → len < n → sets (set b len x) (len + 1) (take (n - (len + 1)) (y ∷ [])) ≡ sets b len (take (n - len) (x ∷ y ∷ []))
together n len x y b h = rw (clip_some n len x (y ∷ []) h, add-one len)

-- nothing is nothing written
pub clip_empty : (n len : ℕ) (b : List ℕ) → b ≡ sets b len (take (n - len) [])
clip_empty n len b = rw (take-nil {A = ℕ} (n - len))
