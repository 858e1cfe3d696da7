-- The cases of S, in the order of the Rust's text. A case is one way through its branches: its condition is what the branches
-- that it takes as yes ask, outermost first, with the tests of the helpers that they call.
use Rattle.std.specs.Prelude.{List, [], ◌∷◌}
use Rattle.rules.specs.Cond.{Cond, always, window, byte, vowel, place, past, left, slavo, non, ◌&◌, ◌or◌, ahead, back, front}
use Rattle.rules.specs.Case.{Case, case}

-- "island", "isle", "carlisle", "carlysle"
abbrev pub island : Cond
island = past 0 & window (back 1) 3 ("ISL" ∷ "YSL" ∷ [])

abbrev pub sugar : Cond
sugar = place 0 & window (ahead 0) 5 ("SUGAR" ∷ [])

abbrev pub SH : Cond
SH = window (ahead 0) 2 ("SH" ∷ [])

abbrev pub germanic_sh : Cond
germanic_sh = window (ahead 1) 4 ("HEIM" ∷ "HOEK" ∷ "HOLM" ∷ "HOLZ" ∷ [])

-- Italian and Armenian; SIAN begins with SIA and never matters (`sian_idle`, proofs/Idle.antt); it stands as in the Rust
abbrev pub SIO : Cond
SIO = window (ahead 0) 3 ("SIO" ∷ "SIA" ∷ []) or window (ahead 0) 4 ("SIAN" ∷ [])

-- "smith" matches "schmidt", "snider" matches "schneider"; -sz- in Slavic languages
abbrev pub smith : Cond
smith = place 0 & window (ahead 1) 1 ("M" ∷ "N" ∷ "L" ∷ "W" ∷ []) or window (ahead 1) 1 ("Z" ∷ [])

abbrev pub SC : Cond
SC = window (ahead 0) 2 ("SC" ∷ [])

-- Schlesinger's rule
abbrev pub SCH : Cond
SCH = byte (ahead 2) "H"

-- Dutch origin, "school", "schooner"
abbrev pub school : Cond
school = window (ahead 3) 2 ("OO" ∷ "ER" ∷ "EN" ∷ "UY" ∷ "ED" ∷ "EM" ∷ [])

-- "schermerhorn", "schenker"
abbrev pub schenker : Cond
schenker = window (ahead 3) 2 ("ER" ∷ "EN" ∷ [])

abbrev pub first_sch : Cond
first_sch = place 0 & non (vowel (front 3)) & non (byte (front 3) "W")

-- French, "resnais", "artois"
abbrev pub artois : Cond
artois = past 1 & left 0 & window (back 2) 2 ("AI" ∷ "OI" ∷ [])

abbrev pub next_sz : Cond
next_sz = window (ahead 1) 1 ("S" ∷ "Z" ∷ [])

-- 15 is a way that no word takes: a last S has nothing ahead
unfoldable pub cases_s : List Case
cases_s =
    case island "" "" 0
    ∷ case sugar "X" "S" 0
    ∷ case (SH & germanic_sh) "S" "S" 1
    ∷ case SH "X" "X" 1
    ∷ case (SIO & slavo) "S" "S" 2
    ∷ case SIO "S" "X" 2
    ∷ case (smith & window (ahead 1) 1 ("Z" ∷ [])) "S" "X" 1
    ∷ case smith "S" "X" 0
    ∷ case (SC & SCH & school & schenker) "X" "SK" 2
    ∷ case (SC & SCH & school) "SK" "SK" 2
    ∷ case (SC & SCH & first_sch) "X" "S" 2
    ∷ case (SC & SCH) "X" "X" 2
    ∷ case (SC & window (ahead 2) 1 ("I" ∷ "E" ∷ "Y" ∷ [])) "S" "S" 2
    ∷ case SC "SK" "SK" 2
    ∷ case (artois & next_sz) "" "S" 1
    ∷ case artois "" "S" 0
    ∷ case next_sz "S" "S" 1
    ∷ case always "S" "S" 0
    ∷ []
