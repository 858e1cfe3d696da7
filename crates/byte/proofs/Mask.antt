-- A mask of letters: which row a byte is in, and whether the mask has its letter.
use Prim.Native.Nat.{ℕ, ◌/◌, ◌^◌}
use mathlib.Core.Bool.{Bool, not}
use lib.Bits.{bit_and}
use lib.Dec.{eqb}

-- ---- a mask of letters
-- the bits of `b` that `high` picks are `row`, or are others
abbrev pub in_row : ℕ → ℕ → ℕ → Bool
in_row high row b = eqb (bit_and b high) row

abbrev pub off_row : ℕ → ℕ → ℕ → Bool
off_row high row b = not (in_row high row b)

-- the mask `m` has the bit that the low five bits of `b` name
abbrev pub has_letter : ℕ → ℕ → Bool
has_letter m b = eqb (bit_and (m / 2 ^ bit_and b 31) 1) 1
