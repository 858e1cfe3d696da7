-- Bytes, texts and letter case: "Letters a to z count as A to Z" (document 01, "Preparing the word"). Each byte is read by
-- itself, so no place moves (`length_upper`, `get_d_upper` in proofs/Case.antt).
use Rattle.std.specs.Prelude.{ℕ, ◌-◌, cond, ◌&&◌, List, [], ◌∷◌, map, leb}
use Prim.Native.Char.{code}
use Prim.Native.String.{String}

-- the bytes of an ASCII text
abbrev pub bytes : String → List ℕ
bytes String.[] = []
bytes (String.◌∷◌ c s) = code c ∷ bytes s

-- a letter a to z counts as A to Z; any other byte is itself
unfoldable pub up : ℕ → ℕ
up b = cond (leb 97 b && leb b 122) (b - 32) b

unfoldable pub upper : List ℕ → List ℕ
unfolding up
upper w = map up w
