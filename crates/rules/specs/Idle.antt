-- Tests of the Rust that no word makes matter (document 02, L2): where each is asked, the tests before it have settled its answer.
-- The definition keeps them in the Rust's places, and the code is without them. Here stand their conditions without the test, and
-- what it is that a test does not matter; proofs/Idle.antt shows it of each, at every place of every word. The fifth such test,
-- WITZ in the mark, is in crates/word (specs/Mark.antt, proofs/Mark.antt).
use Rattle.std.specs.Prelude.{ℕ, zero, suc, List, [], ◌∷◌, ◌≡◌}
use Rattle.rules.specs.Cond.{Cond, Mode, window, byte, vowel, place, past, below, slavo, non, ◌&◌, ◌or◌, ahead, back}
use Rattle.rules.specs.Case.{Case, case, first}

-- the list, but its case number `n`, counted from 1, asks `d`
abbrev pub asking : (n : ℕ) → (d : Cond) → List Case → List Case
asking n d [] = []
asking zero d (c ∷ cs) = c ∷ cs
asking (suc zero) d (c ∷ cs) = case d c.primary c.alternate c.over ∷ cs
asking (suc (suc n)) d (c ∷ cs) = c ∷ asking (suc n) d cs

-- two lists of cases answer alike, at every place of every word
abbrev pub Alike : List Case → List Case → Type 0
Alike cs ds = (u : List ℕ) (p : ℕ) (m : Mode) → first cs u p m ≡ first ds u p m

-- `gn_other` (CasesG) without its Y test: the byte ahead is N there
abbrev pub gn_other_brief : Cond
gn_other_brief = non (window (ahead 2) 2 ("EY" ∷ [])) & non slavo

-- `SIO` (CasesS) without SIAN, which begins with SIA
abbrev pub sio_brief : Cond
sio_brief = window (ahead 0) 3 ("SIO" ∷ "SIA" ∷ [])

-- `ach` (CasesC), the place asked only once whether it is below 2
abbrev pub ach_brief : Cond
ach_brief =
    non (below 1)
    & non (below 2 or vowel (back 2))
    & non (past 0 & non (window (back 1) 3 ("ACH" ∷ [])))
    & (non (byte (ahead 2) "I" or byte (ahead 2) "E") or window (back 2) 6 ("BACHER" ∷ "MACHER" ∷ []))

-- `first_j` (CasesDL) without its JOSE test: a JOSE is Spanish, and has been answered
abbrev pub first_j_brief : Cond
first_j_brief = place 0
