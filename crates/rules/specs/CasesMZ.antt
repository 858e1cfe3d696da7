-- The cases of M, P, R, T, W, X and Z, in the order of the Rust's text. A case is one way through its branches: its condition is what the branches
-- that it takes as yes ask, outermost first, with the tests of the helpers that they call.
use Rattle.std.specs.Prelude.{List, [], ◌∷◌}
use Rattle.rules.specs.Cond.{Cond, always, window, byte, vowel, place, past, left, slavo, non, ◌&◌, ◌or◌, ahead, back, front}
use Rattle.rules.specs.Case.{Case, case}
use Rattle.rules.specs.Plain.{next}

-- ---- M: swallows the B of UMB when that B is last or ER follows it
abbrev pub condition_m0 : Cond
condition_m0 =
    next "M"
    or past 0 & window (back 1) 3 ("UMB" ∷ []) & (left 1 or window (ahead 2) 2 ("ER" ∷ []))

unfoldable pub cases_m : List Case
cases_m = case condition_m0 "M" "M" 1 ∷ case always "M" "M" 0 ∷ []

-- ---- P
unfoldable pub cases_p : List Case
cases_p =
    case (next "H") "F" "F" 1
    ∷ case (window (ahead 1) 1 ("P" ∷ "B" ∷ [])) "P" "P" 1
    ∷ case always "P" "P" 0
    ∷ []

-- ---- R: a last R after IE, to the alternate code alone
abbrev pub rogier : Cond
rogier = past 3 & left 0 & non slavo & window (back 2) 2 ("IE" ∷ []) & non (window (back 4) 2 ("ME" ∷ "MA" ∷ []))

-- 1 is a way that no word takes: a last R has no R ahead
unfoldable pub cases_r : List Case
cases_r =
    case (rogier & next "R") "" "R" 1
    ∷ case rogier "" "R" 0
    ∷ case (next "R") "R" "R" 1
    ∷ case always "R" "R" 0
    ∷ []

-- ---- T
abbrev pub TION : Cond
TION = window (ahead 0) 4 ("TION" ∷ []) or window (ahead 0) 3 ("TIA" ∷ "TCH" ∷ [])

abbrev pub Th : Cond
Th = window (ahead 0) 2 ("TH" ∷ []) or window (ahead 0) 3 ("TTH" ∷ [])

-- "thomas", "thames" or germanic
abbrev pub thomas : Cond
thomas =
    window (ahead 2) 2 ("OM" ∷ "AM" ∷ [])
    or window (front 0) 4 ("VAN " ∷ "VON " ∷ [])
    or window (front 0) 3 ("SCH" ∷ [])

unfoldable pub cases_t : List Case
cases_t =
    case TION "X" "X" 2
    ∷ case (Th & thomas) "T" "T" 1
    ∷ case Th "0" "T" 1
    ∷ case (window (ahead 1) 1 ("T" ∷ "D" ∷ [])) "T" "T" 1
    ∷ case always "T" "T" 0
    ∷ []

-- ---- W
abbrev pub first_w : Cond
first_w = place 0 & (vowel (ahead 1) or window (ahead 0) 2 ("WH" ∷ []))

-- Arnow should match Arnoff
abbrev pub arnow : Cond
arnow =
    past 0 & left 0 & vowel (back 1)
    or past 0 & window (back 1) 5 ("EWSKI" ∷ "EWSKY" ∷ "OWSKI" ∷ "OWSKY" ∷ [])
    or window (front 0) 3 ("SCH" ∷ [])

unfoldable pub cases_w : List Case
cases_w =
    case (window (ahead 0) 2 ("WR" ∷ [])) "R" "R" 1
    ∷ case (first_w & vowel (ahead 1)) "A" "F" 0
    ∷ case first_w "A" "A" 0
    ∷ case arnow "" "F" 0
    ∷ case (window (ahead 0) 4 ("WICZ" ∷ "WITZ" ∷ [])) "TS" "FX" 3
    ∷ case always "" "" 0
    ∷ []

-- ---- X
-- French, "breaux"
abbrev pub breaux : Cond
breaux =
    left 0
    & (past 2 & window (back 3) 3 ("IAU" ∷ "EAU" ∷ []) or past 1 & window (back 2) 2 ("AU" ∷ "OU" ∷ []))

abbrev pub next_cx : Cond
next_cx = window (ahead 1) 1 ("C" ∷ "X" ∷ [])

-- 4 is a way that no word takes: a last X has nothing ahead
unfoldable pub cases_x : List Case
cases_x =
    case (place 0) "S" "S" 0
    ∷ case (non breaux & next_cx) "KS" "KS" 1
    ∷ case (non breaux) "KS" "KS" 0
    ∷ case next_cx "" "" 1
    ∷ case always "" "" 0
    ∷ []

-- ---- Z
abbrev pub zo_zi_za : Cond
zo_zi_za = window (ahead 1) 2 ("ZO" ∷ "ZI" ∷ "ZA" ∷ []) or slavo & (past 0 & non (byte (back 1) "T"))

unfoldable pub cases_z : List Case
cases_z =
    case (next "H") "J" "J" 1
    ∷ case (zo_zi_za & next "Z") "S" "TS" 1
    ∷ case zo_zi_za "S" "TS" 0
    ∷ case (next "Z") "S" "S" 1
    ∷ case always "S" "S" 0
    ∷ []
