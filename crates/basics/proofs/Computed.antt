-- Tests that antt computes, one number after the other.
use Prim.Native.Nat.{ℕ, zero, suc, ◌<◌}
use mathlib.Core.Path.{◌≡◌, refl, sym, ap, ◌∙◌}
use mathlib.Core.Bool.{Bool, true, false, ◌&&◌}
use mathlib.Core.List.{List, [], ◌∷◌}
use native.Mathlib.Omega.{arith}
use lib.ListN.{get_or}

-- ---- tests that antt computes, one number after the other
-- the answers of a test at the numbers below `n`
abbrev pub answers : (ℕ → Bool) → ℕ → List Bool
answers f zero = []
answers f (suc n) = f 0 ∷ answers (λ k. f (suc k)) n

answers_at : (f : ℕ → Bool) (n k : ℕ) → k < n → get_or (answers f n) k false ≡ f k
answers_at f zero k h = absurd (omega arith)
answers_at f (suc n) zero h = refl
answers_at f (suc n) (suc k) h = answers_at (λ j. f (suc j)) n k (omega arith)

-- where `t` holds, `f` answers as `g` does, if antt finds it so at each number below `n`
pub alike_where : (t f g : ℕ → Bool) (n k : ℕ) → k < n → t k ≡ true → answers (λ j. t j && f j) n ≡ answers (λ j. t j && g j) n → f k ≡ g k
alike_where t f g n k h y e =
    rw y at (sym (answers_at (λ j. t j && f j) n k h) ∙ ap (λ (l : List Bool). get_or l k false) e ∙ answers_at (λ j. t j && g j) n k h)
