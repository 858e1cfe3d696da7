-- Document 01's number and values for each case of an answer: the number, the place, both lengths and the visits. What `encode`
-- promises speaks through them (crates/encoder/specs).
use Rattle.std.specs.Prelude.{ℕ, Result, Ok, Err}
use Rattle.terms.specs.declared.Fault.{Fault}
use Rattle.answers.specs.declared.Coded.{Coded}
use Rattle.answers.specs.declared.Refusal.{Refusal}
use Rattle.answers.specs.declared.Refusal.TheVariants.{TooLong, NotAscii, PrimaryShort, AlternateShort}
use Rattle.terms.specs.declared.Fault.TheVariants as fault

-- an accepted word's codes, or why it is refused
abbrev pub Answer : Type 0
Answer = Result Coded Refusal

-- document 01's number of a refusal, and the place
abbrev pub number_of_refusal : Refusal → ℕ
number_of_refusal TooLong = 1
number_of_refusal (NotAscii at) = 2
number_of_refusal PrimaryShort = 3
number_of_refusal AlternateShort = 4

abbrev pub place_of_refusal : Refusal → ℕ
place_of_refusal TooLong = 0
place_of_refusal (NotAscii at) = at
place_of_refusal PrimaryShort = 0
place_of_refusal AlternateShort = 0

-- document 01's number of an answer, the place, both lengths and the visits
abbrev pub number_of : Answer → ℕ
number_of (Ok c) = 0
number_of (Err r) = number_of_refusal r

abbrev pub place_of : Answer → ℕ
place_of (Ok c) = 0
place_of (Err r) = place_of_refusal r

abbrev pub primary_length : Answer → ℕ
primary_length (Ok c) = c.primary
primary_length (Err r) = 0

abbrev pub alternate_length : Answer → ℕ
alternate_length (Ok c) = c.alternate
alternate_length (Err r) = 0

abbrev pub visit_count : Answer → ℕ
visit_count (Ok c) = c.visits
visit_count (Err r) = 0

-- a refusal as a fault of document 02, which has one number for a buffer that is too short
abbrev pub fault_of : Refusal → Fault
fault_of TooLong = fault.TooLong
fault_of (NotAscii at) = fault.NotAscii
fault_of PrimaryShort = fault.NoRoom
fault_of AlternateShort = fault.NoRoom
