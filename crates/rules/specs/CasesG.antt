-- The cases of G, in the order of the Rust's text. A case is one way through its branches: its condition is what the branches
-- that it takes as yes ask, outermost first, with the tests of the helpers that they call.
use Rattle.std.specs.Prelude.{List, [], ◌∷◌}
use Rattle.rules.specs.Cond.{Cond, always, window, byte, vowel, place, past, slavo, non, ◌&◌, ◌or◌, ahead, back, front}
use Rattle.rules.specs.Case.{Case, case}
use Rattle.rules.specs.Plain.{next}

abbrev pub Gh : Cond
Gh = next "H"

abbrev pub after_consonant : Cond
after_consonant = past 0 & non (vowel (back 1))

-- Parker's rule, "hugh"
abbrev pub parker : Cond
parker =
    past 1 & window (back 2) 1 ("B" ∷ "H" ∷ "D" ∷ [])
    or past 2 & window (back 3) 1 ("B" ∷ "H" ∷ "D" ∷ [])
    or past 3 & window (back 4) 1 ("B" ∷ "H" ∷ [])

-- "laugh", "McLaughlin", "cough", "gough", "rough", "tough"
abbrev pub laugh : Cond
laugh = past 2 & byte (back 1) "U" & window (back 3) 1 ("C" ∷ "G" ∷ "L" ∷ "R" ∷ "T" ∷ [])

abbrev pub after_other : Cond
after_other = past 0 & non (byte (back 1) "I")

abbrev pub GN : Cond
GN = next "N"

abbrev pub gn_second : Cond
gn_second = place 1 & vowel (front 0) & non slavo

-- the byte ahead is N, so the Y test never matters (`y_idle`, proofs/Idle.antt); it stands as in the Rust
abbrev pub gn_other : Cond
gn_other = non (window (ahead 2) 2 ("EY" ∷ [])) & non (next "Y") & non slavo

abbrev pub gli : Cond
gli = window (ahead 1) 2 ("LI" ∷ []) & non slavo

-- -ges-, -gep-, -gel-, -gie- at beginning
abbrev pub ger_first : Cond
ger_first =
    place 0
    & (next "Y"
    or window (ahead 1) 2 ("ES" ∷ "EP" ∷ "EB" ∷ "EL" ∷ "EY" ∷ "IB" ∷ "IL" ∷ "IN" ∷ "IE" ∷ "EI" ∷ "ER" ∷ []))

-- -ger-, -gy-: the Rust's `and` binds before its `or`, so the last three tests do not guard the first
abbrev pub ger : Cond
ger =
    ger_first
    or (window (ahead 1) 2 ("ER" ∷ []) or next "Y")
    & non (window (front 0) 6 ("DANGER" ∷ "RANGER" ∷ "MANGER" ∷ []))
    & (place 0 or non (window (back 1) 1 ("E" ∷ "I" ∷ [])))
    & (place 0 or non (window (back 1) 3 ("RGY" ∷ "OGY" ∷ [])))

-- Italian "biaggi"
abbrev pub biaggi : Cond
biaggi = window (ahead 1) 1 ("E" ∷ "I" ∷ "Y" ∷ []) or past 0 & window (back 1) 4 ("AGGI" ∷ "OGGI" ∷ [])

abbrev pub germanic : Cond
germanic =
    window (front 0) 4 ("VAN " ∷ "VON " ∷ [])
    or window (front 0) 3 ("SCH" ∷ [])
    or window (ahead 1) 2 ("ET" ∷ [])

unfoldable pub cases_g : List Case
cases_g =
    case (Gh & after_consonant) "K" "K" 1
    ∷ case (Gh & place 0 & byte (ahead 2) "I") "J" "J" 1
    ∷ case (Gh & place 0) "K" "K" 1
    ∷ case (Gh & parker) "" "" 1
    ∷ case (Gh & laugh) "F" "F" 1
    ∷ case (Gh & after_other) "K" "K" 1
    ∷ case Gh "" "" 1
    ∷ case (GN & gn_second) "KN" "N" 1
    ∷ case (GN & gn_other) "N" "KN" 1
    ∷ case GN "KN" "KN" 1
    ∷ case gli "KL" "L" 1
    ∷ case ger "K" "J" 1
    ∷ case (biaggi & germanic) "K" "K" 1
    ∷ case (biaggi & window (ahead 1) 3 ("IER" ∷ [])) "J" "J" 1
    ∷ case biaggi "J" "K" 1
    ∷ case (next "G") "K" "K" 1
    ∷ case always "K" "K" 0
    ∷ []
