-- Document 01's number and values for each case of a verdict: the number, which word, the place, and 1 for equal. What `equal`
-- promises speaks through them (crates/equality/specs).
use Rattle.std.specs.Prelude.{ℕ, Bool, true, false, Result, Ok, Err}
use Rattle.answers.specs.declared.Word.{Word}
use Rattle.answers.specs.declared.Word.TheVariants.{First, Second}
use Rattle.answers.specs.declared.WordRefusal.{WordRefusal}
use Rattle.answers.specs.Answers.{number_of_refusal, place_of_refusal}

-- whether the codes are equal, or which word is refused, and why
abbrev pub Verdict : Type 0
Verdict = Result Bool WordRefusal

-- the document's number of a word
abbrev pub number_of_word : Word → ℕ
number_of_word First = 1
number_of_word Second = 2

-- document 01's number of an answer, the word it speaks of (0 unless it refuses one), its place, and 1 for equal
abbrev pub number_of : Verdict → ℕ
number_of (Ok equal) = 0
number_of (Err r) = number_of_refusal r.refusal

abbrev pub word_of : Verdict → ℕ
word_of (Ok equal) = 0
word_of (Err r) = number_of_word r.word

abbrev pub place_of : Verdict → ℕ
place_of (Ok equal) = 0
place_of (Err r) = place_of_refusal r.refusal

abbrev pub equal_of : Verdict → ℕ
equal_of (Ok true) = 1
equal_of (Ok false) = 0
equal_of (Err r) = 0
