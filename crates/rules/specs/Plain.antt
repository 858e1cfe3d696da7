-- The cases of the plain letters (document 01, module 5): vowels and Y give A at place 0 only; B gives P, Q gives K, V gives F; F,
-- K and N give themselves. All but the vowels swallow a doubled letter. M, which swallows more, is in CasesMZ.
use Prim.Native.Char.{Char}
use Prim.Native.String.{String}
use Rattle.std.specs.Prelude.{List, [], ◌∷◌}
use Rattle.rules.specs.Cond.{Cond, always, byte, place, ahead}
use Rattle.rules.specs.Case.{Case, case}

-- the byte behind the visited one
abbrev pub next : Char → Cond
next c = byte (ahead 1) c

unfoldable pub cases_vowel : List Case
cases_vowel = case (place 0) "A" "A" 0 ∷ case always "" "" 0 ∷ []

-- a letter of one sound
unfoldable pub swallows : Char → String → List Case
swallows letter sound = case (next letter) sound sound 1 ∷ case always sound sound 0 ∷ []

abbrev pub cases_b : List Case
cases_b = swallows "B" "P"

abbrev pub cases_f : List Case
cases_f = swallows "F" "F"

abbrev pub cases_k : List Case
cases_k = swallows "K" "K"

abbrev pub cases_n : List Case
cases_n = swallows "N" "N"

abbrev pub cases_q : List Case
cases_q = swallows "Q" "K"

abbrev pub cases_v : List Case
cases_v = swallows "V" "F"

-- digits, signs and control bytes add nothing
unfoldable pub cases_rest : List Case
cases_rest = case always "" "" 0 ∷ []
