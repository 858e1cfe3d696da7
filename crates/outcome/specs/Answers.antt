-- What a visit answers, and what is told of the case that spoke.
use Rattle.std.specs.Prelude.{ℕ, cond, eqb}
use Rattle.outcome.specs.declared.Add.{Add}
use Rattle.outcome.specs.declared.Visit.{Visit}
use Rattle.outcome.specs.declared.Spoken.{Spoken}

abbrev pub answer : Add → Add → ℕ → Visit
answer p a n = record { primary = p; alternate = a; over = n }

abbrev pub spoke : ℕ → ℕ → Visit → Spoken
spoke i t v = record { case = i; text = t; visit = v }

-- the first number, and where it is 0 the second
abbrev pub or_else : ℕ → ℕ → ℕ
or_else a b = cond (eqb a 0) b a
