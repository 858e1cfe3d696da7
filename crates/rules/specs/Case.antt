-- A case of a letter: its own condition, what it adds to the primary code, what it adds to the alternate, and how many further
-- bytes are passed over (document 01, "What is carried over"). A visit is the first case that holds.
use Rattle.std.specs.Prelude.{ℕ, cond, List, [], ◌∷◌}
use Prim.Native.String.{String}
use Rattle.byte.specs.Text.{bytes}
use Rattle.rules.specs.Cond.{Cond, Mode, holds}
use Rattle.outcome.specs.declared.Add.{Add}
use Rattle.outcome.specs.declared.Add.TheVariants.{Nothing, One, Two}
use Rattle.outcome.specs.declared.Visit.{Visit}
use Rattle.outcome.specs.Answers.{answer}

pub record Case : Type 0 where
  pub when : Cond
  pub primary : String
  pub alternate : String
  pub over : ℕ

abbrev pub case : Cond → String → String → ℕ → Case
case c p a n = record { when = c; primary = p; alternate = a; over = n }

-- what a text adds; no text of the table has more than two bytes (`texts_short` in proofs/Bound.antt)
abbrev pub added : List ℕ → Add
added [] = Nothing
added (a ∷ []) = One a
added (a ∷ b ∷ s) = Two a b

abbrev pub adds : String → String → ℕ → Visit
adds p a n = answer (added (bytes p)) (added (bytes a)) n

abbrev pub gives : Case → Visit
gives c = adds c.primary c.alternate c.over

-- what the first case that holds answers; where none does, nothing is added
unfoldable pub first : List Case → List ℕ → ℕ → Mode → Visit
unfolding holds
first [] u p m = adds "" "" 0
first (c ∷ cs) u p m = cond (holds c.when u p m) (gives c) (first cs u p m)
