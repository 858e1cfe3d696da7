-- Capitals: a small letter has one, and no place moves.
use Prim.Native.Nat.{ℕ, ◌≤◌}
use mathlib.Core.Path.{◌≡◌}
use mathlib.Core.Bool.{true, ◌&&◌}
use mathlib.Core.List.{List}
use borrow.Author.Tests.{leb-true}
use lib.Dec.{leb}
use lib.ListN.{length, get_or, length-map, get_or-map}
use Rattle.byte.specs.Text.{up, upper}
use Rattle.basics.proofs.Tests.{both}

-- a small letter has a capital 32 below it
pub small_letter : (b : ℕ) → (leb 97 b && leb b 122) ≡ true → 97 ≤ b
small_letter b e = leb-true 97 b (both (leb 97 b) (leb b 122) e).0

pub length_upper : (w : List ℕ) → length (upper w) ≡ length w
unfolding upper
length_upper w = length-map w up

pub get_d_upper : (w : List ℕ) (i : ℕ) → get_or (upper w) i 0 ≡ up (get_or w i 0)
unfolding upper up
get_d_upper w i = get_or-map up w i 0
