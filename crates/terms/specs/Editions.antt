-- Which formats of a book and which editions of the rules are known, by their numbers, and which a new book carries.
use Rattle.std.specs.Prelude.{ℕ, Bool, true, false, cond, ◌||◌, eqb, ltb, Result, Ok, Err}
use Rattle.terms.specs.declared.Edition.{Edition}
use Rattle.terms.specs.declared.UnknownEdition.{UnknownEdition}
use Rattle.terms.specs.declared.Edition.TheVariants.{E1, E2}

-- those from 1 to these
abbrev pub last_format : ℕ
last_format = 2

abbrev pub last_edition : ℕ
last_edition = 2

abbrev pub is_unknown : ℕ → Bool
is_unknown n = eqb n 0 || ltb last_edition n

-- a new book's
abbrev pub new_format : ℕ
new_format = 2

abbrev pub new_edition : ℕ
new_edition = 2

abbrev pub is_second : Edition → Bool
is_second E1 = false
is_second E2 = true

-- the edition of a number that is not unknown
abbrev pub edition_of : ℕ → Edition
edition_of n = cond (eqb n 1) E1 E2

-- what a number names: its edition, or none
abbrev pub named_by : ℕ → Result Edition UnknownEdition
named_by n = cond (is_unknown n) (Err (record {})) (Ok (edition_of n))
