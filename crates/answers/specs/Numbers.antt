-- The encoder's and the equality question's answers as a host's numbers.
use Rattle.std.specs.Prelude.{ℕ, List, [], ◌∷◌, Result, Ok, Err}
use Rattle.answers.specs.declared.Coded.{Coded}
use Rattle.answers.specs.declared.CallRefusal.{CallRefusal}
use Rattle.answers.specs.declared.CallRefusal.TheVariants.{UnknownEdition, Refused}
use Rattle.answers.specs.Answers.{Answer, number_of, place_of, primary_length, alternate_length, visit_count}
use Rattle.answers.specs.Verdicts.{Verdict}
use Rattle.answers.specs.Verdicts as verdict

-- an accepted word's codes, or why a call that names its edition is refused
abbrev pub Reply : Type 0
Reply = Result Coded CallRefusal

-- number, place, primary length, alternate length, visits
abbrev pub answer_numbers : Answer → List ℕ
answer_numbers r = number_of r ∷ place_of r ∷ primary_length r ∷ alternate_length r ∷ visit_count r ∷ []

-- the same of a reply: 7 for an edition that is not known
abbrev pub reply_numbers : Reply → List ℕ
reply_numbers (Ok c) = answer_numbers (Ok c)
reply_numbers (Err (Refused r)) = answer_numbers (Err r)
reply_numbers (Err UnknownEdition) = 7 ∷ 0 ∷ 0 ∷ 0 ∷ 0 ∷ []

-- number, which word, place, and 1 for equal
abbrev pub verdict_numbers : Verdict → List ℕ
verdict_numbers r = verdict.number_of r ∷ verdict.word_of r ∷ verdict.place_of r ∷ verdict.equal_of r ∷ []
