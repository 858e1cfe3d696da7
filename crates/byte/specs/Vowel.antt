-- The vowels.
use Rattle.std.specs.Prelude.{ℕ, Bool, false, ◌||◌, List, [], ◌∷◌, eqb}
use Rattle.byte.specs.Text.{bytes}

-- the byte is one of these
abbrev pub among : List ℕ → ℕ → Bool
among [] b = false
among (k ∷ ks) b = eqb b k || among ks b

-- the vowels A E I O U, and always Y
unfoldable pub vowel : ℕ → Bool
vowel = among (bytes "AEIOUY")
