-- The equality question, after document 01's "The first word is checked wholly before the second. The limited codes are
-- compared, and two empty codes are equal." proofs/NoChoice.antt shows that nothing is left open, and `equal_exactly`,
-- `two_empty` of proofs/Table.antt what a comparison says.
use Rattle.std.specs.Prelude.{◌≡◌, ℕ, List, cond, ltb, length, Ok, Err}
use Rattle.basics.specs.Same.{same}
use Rattle.terms.specs.declared.Edition.TheVariants.{E1}
use Rattle.terms.specs.Limits.{Limit}
use Rattle.ascii.specs.High.{first_high}
use Rattle.terms.specs.Limits.{word_limit}
use Rattle.demands.specs.Code.{code_of}
use Rattle.chosen.specs.declared.Choice.{Choice}
pub use Rattle.answers.specs.Verdicts.{Verdict, number_of, word_of, place_of, equal_of}
use Rattle.equality.specs.Table.{Told}
use Rattle.answers.specs.declared.Word.{Word}
use Rattle.answers.specs.declared.Word.TheVariants.{First, Second}
use Rattle.answers.specs.declared.Refusal.{Refusal}
use Rattle.answers.specs.declared.Refusal.TheVariants.{TooLong, NotAscii}
use Rattle.answers.specs.declared.WordRefusal.{WordRefusal}

abbrev pub refused : Word → Refusal → Verdict
refused which r = Err (record { word = which; refusal = r })

-- a word's refusal, the first or the second word's by `which`, or what an accepted word gives
abbrev pub unless_refused : Word → List ℕ → Verdict → Verdict
unless_refused which w v = cond (ltb word_limit (length w)) (refused which TooLong) (cond (ltb (first_high w) (length w)) (refused which (NotAscii (first_high w))) v)

abbrev pub compared : List ℕ → List ℕ → Verdict
compared x y = Ok (same x y)

-- the word is refused so, whatever it is compared with
abbrev pub Refuses : Word → List ℕ → WordRefusal → Type 0
Refuses which w r = (v : Verdict) → unless_refused which w v ≡ Err r

-- the answer, which is edition 1's: the first word is checked wholly before the second
abbrev pub verdict_of : Limit → Choice → List ℕ → List ℕ → Verdict
verdict_of l c one two = unless_refused First one (unless_refused Second two (compared (code_of E1 l c one) (code_of E1 l c two)))

-- what `equal` promises of its answer r: when each number is given, and the answer itself
pub record Answered (l : Limit) (c : Choice) (one two : List ℕ) (r : Verdict) : Type 0 where
  pub told : Told (length one) (first_high one) (length two) (first_high two) r
  pub answer : r ≡ verdict_of l c one two
