-- A window behind a place: whether it is one of the texts, and which.
use Prim.Native.Nat.{ℕ, ◌-◌}
use mathlib.Core.Path.{◌≡◌, refl}
use mathlib.Core.Bool.{Bool, true, false, cond, not, ◌&&◌}
use mathlib.Core.List.{List}
use lib.Dec.{leb, eqb}
use Rattle.windows.specs.Window.{sees, text_at}
use Rattle.spots.specs.Spot.{step_back, tell_back}
use Rattle.windows.proofs.Facts.{seen}

pub seen_back : (u : List ℕ) (p k n : ℕ) (ts : List (List ℕ))
    → not (eqb (tell_back p k (λ (q : ℕ). text_at u q n ts)) 0) ≡ step_back p k (λ (q : ℕ). sees u q n ts)
seen_back u p k n ts = by (leb k p)
  where
    by : (b : Bool) → not (eqb (cond b (text_at u (p - k) n ts) 0) 0) ≡ (b && sees u (p - k) n ts)
    by true = seen u (p - k) n ts
    by false = refl
