-- The Slavo-Germanic mark of a word: it has W, K, CZ or WITZ. `u` is the word in capitals.
use Rattle.std.specs.Prelude.{ℕ, List, [], ◌∷◌, map, Bool, false, ◌||◌, length}
use Rattle.byte.specs.Text.{bytes}
use Rattle.windows.specs.Window.{is_at}

-- the word `u` begins with one of the texts
unfoldable pub begins_one : List (List ℕ) → List ℕ → Bool
begins_one [] u = false
begins_one (t ∷ ts) u = is_at u 0 (length t) t || begins_one ts u

-- one of the texts stands somewhere in it
unfoldable pub has_one : List (List ℕ) → List ℕ → Bool
has_one ts [] = false
has_one ts (b ∷ u) = begins_one ts (b ∷ u) || has_one ts u

-- the mark: the word, in capitals, has W, K, CZ or WITZ
abbrev pub mark_texts : List (List ℕ)
mark_texts = map bytes ("W" ∷ "K" ∷ "CZ" ∷ "WITZ" ∷ [])

-- without WITZ, which begins with W, so that no word tells the two apart (`witz_idle`, proofs/Mark.antt); the code asks these
abbrev pub mark_texts_brief : List (List ℕ)
mark_texts_brief = map bytes ("W" ∷ "K" ∷ "CZ" ∷ [])

unfoldable pub slavo_germanic : List ℕ → Bool
slavo_germanic u = has_one mark_texts u
