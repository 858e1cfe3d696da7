-- `rooms::zeros` meets its contract, by laws of a repeat of any length: `search` would write the list out.
use Prim.Native.Nat.{ℕ, zero, suc}
use mathlib.Core.Path.{◌≡◌, refl, sym}
use lib.ListN.{get_or, replicate, length-replicate}
use Rattle.rooms.proofs.zeros.Goals as goal

zero_at : (n i : ℕ) → ◌≡◌ {A = ℕ} (get_or (replicate n 0) i 0) 0
zero_at zero i = refl
zero_at (suc n) zero = refl
zero_at (suc n) (suc i) = zero_at n i

pub returns : goal.returns
returns g c = record { long = sym (length-replicate {0} {A = ℕ} g.row.N 0); zeros = zero_at g.row.N }
