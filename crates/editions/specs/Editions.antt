-- A call that names its edition by a number (document 02, L4): a number that is no edition is refused with 7, before all else. Otherwise
-- the answer and both buffers are those of `encode` under that edition (`edition_encoded` in proofs/Editions.antt).
use Rattle.std.specs.Prelude.{ℕ, ◌≡◌, cond, List, length, Ok, Err}
use Rattle.terms.specs.declared.Fault.TheVariants.{NotKnown}
use Rattle.terms.specs.Limits.{Limit}
use Rattle.answers.specs.Numbers.{Reply}
use Rattle.answers.specs.declared.CallRefusal.TheVariants.{UnknownEdition, Refused}
use Rattle.trimming.specs.Trim.{trimmed}
use Rattle.answers.specs.Answers.{number_of_refusal}
use Rattle.encoder.specs.Encode.{Answer, primary_of, alternate_of, answer_of, left_by}
use Rattle.terms.specs.Editions.{is_unknown, edition_of}
use Rattle.terms.specs.Faults as fault

-- an answer under a known edition
abbrev pub replied : Answer → Reply
replied (Ok c) = Ok c
replied (Err r) = Err (Refused r)

abbrev pub reply_of : ℕ → Limit → List ℕ → ℕ → ℕ → Reply
reply_of n l w p a = cond (is_unknown n) (Err UnknownEdition) (replied (answer_of (edition_of n) l w p a))

abbrev pub reply_number : Reply → ℕ
reply_number (Ok c) = 0
reply_number (Err UnknownEdition) = fault.number_of NotKnown
reply_number (Err (Refused r)) = number_of_refusal r

-- what `encode_in` promises, for every number: its reply r, and its buffers before (p, a) and after (p', a'); a refusal changes neither
pub record EncodedIn (n : ℕ) (l : Limit) (w p a : List ℕ) (r : Reply) (p' a' : List ℕ) : Type 0 where
  pub answer : r ≡ reply_of n l w (length p) (length a)
  pub primary : p' ≡ left_by r (primary_of (edition_of n) l (trimmed w)) p
  pub alternate : a' ≡ left_by r (alternate_of (edition_of n) l (trimmed w)) a
