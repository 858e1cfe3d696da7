-- A visit as a row of seven numbers (document 02, L6): "place, letter, case number, matched text's number or 0, what each code gained, bytes
-- passed over".
use Rattle.std.specs.Prelude.{ℕ, ◌+◌, ◌*◌, ◌^◌, ◌<◌, List, [], ◌∷◌}
use Rattle.outcome.specs.declared.Add.{Add}
use Rattle.outcome.specs.declared.Add.TheVariants.{Nothing, One, Two}
use Rattle.outcome.specs.declared.Spoken.{Spoken}

pub record Row : Type 0 where
  pub place : ℕ
  pub letter : ℕ
  pub case : ℕ
  pub text : ℕ
  pub primary : ℕ
  pub alternate : ℕ
  pub over : ℕ

-- a gain as one number: 0 for nothing, the byte, or the first byte plus 256 times the second
abbrev pub gained : Add → ℕ
gained Nothing = 0
gained (One a) = a
gained (Two a b) = a + 256 * b

-- the row of a visit of this letter, at this place
abbrev pub row_of : ℕ → ℕ → Spoken → Row
row_of b p s =
    record {
      place = p;
      letter = b;
      case = s.case;
      text = s.text;
      primary = gained s.visit.primary;
      alternate = gained s.visit.alternate;
      over = s.visit.over;
    }

-- as numbers
abbrev pub numbers_of : Row → List ℕ
numbers_of r = r.place ∷ r.letter ∷ r.case ∷ r.text ∷ r.primary ∷ r.alternate ∷ r.over ∷ []

-- what a row tells fits its numbers
pub record Small (place : ℕ) (s : Spoken) : Type 0 where
  pub place_fits : place < 2 ^ 32
  pub case_fits : s.case < 2 ^ 32
  pub text_fits : s.text < 2 ^ 32
  pub over_fits : s.visit.over < 2 ^ 32
