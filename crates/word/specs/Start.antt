-- Where the first visit of a word is: at place 1 where its first letter is silent.
use Rattle.std.specs.Prelude.{ℕ, List, [], ◌∷◌, map, cond}
use Rattle.byte.specs.Text.{bytes, upper}
use Rattle.windows.specs.Window.{sees}

-- the first letter of a word that begins so is silent, and the walk starts behind it
abbrev pub silent_starts : List (List ℕ)
silent_starts = map bytes ("GN" ∷ "KN" ∷ "PN" ∷ "WR" ∷ "PS" ∷ [])

unfoldable pub start_of : List ℕ → ℕ
start_of w = cond (sees (upper w) 0 2 silent_starts) 1 0
