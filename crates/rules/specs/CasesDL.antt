-- The cases of D, H, J and L, in the order of the Rust's text. A case is one way through its branches: its condition is what the branches
-- that it takes as yes ask, outermost first, with the tests of the helpers that they call.
use Rattle.std.specs.Prelude.{List, [], ◌∷◌}
use Rattle.rules.specs.Cond.{Cond, always, window, byte, vowel, place, past, left, long, slavo, non, ◌&◌, ◌or◌, ahead, back, front, rear}
use Rattle.rules.specs.Case.{Case, case}
use Rattle.rules.specs.Plain.{next}

-- ---- D
abbrev pub DG : Cond
DG = window (ahead 0) 2 ("DG" ∷ [])

unfoldable pub cases_d : List Case
cases_d =
    case (DG & window (ahead 2) 1 ("I" ∷ "E" ∷ "Y" ∷ [])) "J" "J" 2
    ∷ case DG "TK" "TK" 1
    ∷ case (window (ahead 0) 2 ("DT" ∷ "DD" ∷ [])) "T" "T" 1
    ∷ case always "T" "T" 0
    ∷ []

-- ---- H: kept first before a vowel, or between two
abbrev pub before_vowel : Cond
before_vowel = (place 0 or vowel (back 1)) & vowel (ahead 1)

unfoldable pub cases_h : List Case
cases_h = case before_vowel "H" "H" 1 ∷ case always "" "" 0 ∷ []

-- ---- J
abbrev pub JOSE : Cond
JOSE = window (ahead 0) 4 ("JOSE" ∷ [])

abbrev pub SAN : Cond
SAN = window (front 0) 4 ("SAN " ∷ [])

-- obvious Spanish, "Jose", "San Jacinto"
abbrev pub spanish : Cond
spanish = JOSE or SAN

abbrev pub spanish_h : Cond
spanish_h = (place 0 & byte (ahead 4) " " or long 4) or SAN

-- no JOSE comes here, so its test never matters (`jose_idle`, proofs/Idle.antt); it stands as in the Rust
abbrev pub first_j : Cond
first_j = place 0 & non JOSE

abbrev pub between_vowels : Cond
between_vowels = past 0 & vowel (back 1) & non slavo & (next "A" or next "O")

abbrev pub plain_j : Cond
plain_j =
    non (window (ahead 1) 1 ("L" ∷ "T" ∷ "K" ∷ "S" ∷ "N" ∷ "M" ∷ "B" ∷ "Z" ∷ []))
    & (place 0 or non (window (back 1) 1 ("S" ∷ "K" ∷ "L" ∷ [])))

-- 5 and 7 are ways that no word takes: the byte ahead is A or O, or there is none
unfoldable pub cases_j : List Case
cases_j =
    case (spanish & spanish_h) "H" "H" 0
    ∷ case spanish "J" "H" 0
    ∷ case (first_j & next "J") "J" "A" 1
    ∷ case first_j "J" "A" 0
    ∷ case (between_vowels & next "J") "J" "H" 1
    ∷ case between_vowels "J" "H" 0
    ∷ case (left 0 & next "J") "J" " " 1
    ∷ case (left 0) "J" " " 0
    ∷ case (plain_j & next "J") "J" "J" 1
    ∷ case plain_j "J" "J" 0
    ∷ case (next "J") "" "" 1
    ∷ case always "" "" 0
    ∷ []

-- ---- L: to the primary code alone in Spanish -illo, -illa, -alle
abbrev pub condition_l0 : Cond
condition_l0 =
    left 2 & past 0 & window (back 1) 4 ("ILLO" ∷ "ILLA" ∷ "ALLE" ∷ [])
    or (window (rear 2) 2 ("AS" ∷ "OS" ∷ []) or window (rear 1) 1 ("A" ∷ "O" ∷ [])) & window (back 1) 4 ("ALLE" ∷ [])

unfoldable pub cases_l : List Case
cases_l =
    case (next "L" & condition_l0) "L" "" 1
    ∷ case (next "L") "L" "L" 1
    ∷ case always "L" "L" 0
    ∷ []
