-- The cases of C, in the order of the Rust's text. A case is one way through its branches: its condition is what the branches
-- that it takes as yes ask, outermost first, with the tests of the helpers that they call.
use Rattle.std.specs.Prelude.{List, [], ◌∷◌}
use Rattle.rules.specs.Cond.{Cond, always, window, byte, vowel, place, past, below, left, edition2, non, ◌&◌, ◌or◌, ahead, back, front}
use Rattle.rules.specs.Case.{Case, case}

-- the third test of the place, the second below 2, never matters (`below_idle`, proofs/Idle.antt); it stands as in the Rust
abbrev pub ach : Cond
ach =
    non (below 1)
    & non (below 2 or vowel (back 2))
    & non (past 0 & non (window (back 1) 3 ("ACH" ∷ [])))
    & non (below 2)
    & (non (byte (ahead 2) "I" or byte (ahead 2) "E") or window (back 2) 6 ("BACHER" ∷ "MACHER" ∷ []))

abbrev pub condition_c0 : Cond
condition_c0 = window (ahead 0) 4 ("CHIA" ∷ []) or ach

abbrev pub caesar : Cond
caesar = place 0 & window (ahead 0) 6 ("CAESAR" ∷ [])

abbrev pub CH : Cond
CH = window (ahead 0) 2 ("CH" ∷ [])

-- "Michael"
abbrev pub chae : Cond
chae = past 0 & window (ahead 0) 4 ("CHAE" ∷ [])

abbrev pub condition_ch0 : Cond
condition_ch0 =
    non (non (place 0))
    & non (non (window (ahead 1) 5 ("HARAC" ∷ "HARIS" ∷ [])) & non (window (ahead 1) 3 ("HOR" ∷ "HYM" ∷ "HIA" ∷ "HEM" ∷ [])))
    & non (window (front 0) 5 ("CHORE" ∷ []))

-- ch for kh before some letters or last, behind a vowel or first
abbrev pub kh_before : Cond
kh_before =
    (place 0 or window (back 1) 1 ("A" ∷ "O" ∷ "U" ∷ "E" ∷ []))
    & (window (ahead 2) 1 ("L" ∷ "R" ∷ "N" ∷ "M" ∷ "B" ∷ "H" ∷ "F" ∷ "V" ∷ "W" ∷ " " ∷ []) or left 1)

-- the Rust's window has four bytes and texts of three, so it never holds, and edition 1 keeps it; edition 2 reads it with texts of
-- four, as G and T do
abbrev pub van_or_von : Cond
van_or_von = edition2 & window (front 0) 4 ("VAN " ∷ "VON " ∷ []) or non edition2 & window (front 0) 4 ("VAN" ∷ "VON" ∷ [])

abbrev pub condition_ch1 : Cond
condition_ch1 =
    (van_or_von or window (front 0) 3 ("SCH" ∷ []))
    or past 1 & window (back 2) 6 ("ORCHES" ∷ "ARCHIT" ∷ "ORCHID" ∷ [])
    or past 1 & window (ahead 2) 1 ("T" ∷ "S" ∷ [])
    or kh_before

-- "Czerny"
abbrev pub czerny : Cond
czerny = window (ahead 0) 2 ("CZ" ∷ []) & (below 2 or non (window (back 2) 4 ("WICZ" ∷ [])))

-- double "cc" but not "McClelland"
abbrev pub double_c : Cond
double_c = window (ahead 0) 2 ("CC" ∷ []) & non (place 1 & byte (front 0) "M")

-- "bellocchio" but not "bacchus"
abbrev pub bellocchio : Cond
bellocchio = window (ahead 2) 1 ("I" ∷ "E" ∷ "H" ∷ []) & non (window (ahead 2) 2 ("HU" ∷ []))

-- "accident", "accede", "succeed"
abbrev pub accede : Cond
accede = place 1 & byte (back 1) "A" or window (back 1) 5 ("UCCEE" ∷ "UCCES" ∷ [])

abbrev pub CI : Cond
CI = window (ahead 0) 2 ("CI" ∷ "CE" ∷ "CY" ∷ [])

abbrev pub hard_c : Cond
hard_c = window (ahead 1) 1 ("C" ∷ "K" ∷ "Q" ∷ []) & non (window (ahead 1) 2 ("CE" ∷ "CI" ∷ []))

unfoldable pub cases_c : List Case
cases_c =
    case condition_c0 "K" "K" 1
    ∷ case caesar "S" "S" 1
    ∷ case (CH & chae) "K" "X" 1
    ∷ case (CH & (condition_ch0 or condition_ch1)) "K" "K" 1
    ∷ case (CH & past 0 & window (front 0) 2 ("MC" ∷ [])) "K" "K" 1
    ∷ case (CH & past 0) "X" "K" 1
    ∷ case CH "X" "X" 1
    ∷ case czerny "S" "X" 1
    ∷ case (window (ahead 1) 3 ("CIA" ∷ [])) "X" "X" 2
    ∷ case (double_c & bellocchio & accede) "KS" "KS" 2
    ∷ case (double_c & bellocchio) "X" "X" 2
    ∷ case double_c "K" "K" 1
    ∷ case (window (ahead 0) 2 ("CK" ∷ "CG" ∷ "CQ" ∷ [])) "K" "K" 1
    ∷ case (CI & window (ahead 0) 3 ("CIO" ∷ "CIE" ∷ "CIA" ∷ [])) "S" "X" 1
    ∷ case CI "S" "S" 1
    ∷ case (window (ahead 1) 2 (" C" ∷ " Q" ∷ " G" ∷ [])) "K" "K" 2
    ∷ case hard_c "K" "K" 1
    ∷ case always "K" "K" 0
    ∷ []
