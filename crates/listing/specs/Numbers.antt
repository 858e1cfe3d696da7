-- The number of each answer of the listing, the place, and how many rows there are.
use Rattle.std.specs.Prelude.{ℕ, Result, Ok, Err}
use Rattle.terms.specs.declared.Fault.{Fault}
use Rattle.terms.specs.declared.Fault.TheVariants.{NotKnown, NoRoom}
use Rattle.answers.specs.declared.CallRefusal.{CallRefusal}
use Rattle.answers.specs.declared.CallRefusal.TheVariants.{Refused}
use Rattle.listing.specs.declared.Unlisted.{Unlisted}
use Rattle.listing.specs.declared.Unlisted.TheVariants.{TooLong, NotAscii, UnknownEdition, RoomShort}
use Rattle.terms.specs.Faults as faults
use Rattle.terms.specs.declared.Fault.TheVariants as fault
use Rattle.answers.specs.declared.CallRefusal.TheVariants as call
use Rattle.answers.specs.declared.Refusal.TheVariants as refusal

-- how many rows there are, all written, or why there are none
abbrev pub Told : Type 0
Told = Result ℕ Unlisted

-- a refusal of the encoder as the listing's
abbrev pub unlisted_by : CallRefusal → Unlisted
unlisted_by call.UnknownEdition = UnknownEdition
unlisted_by (Refused refusal.TooLong) = TooLong
unlisted_by (Refused (refusal.NotAscii at)) = NotAscii at
unlisted_by (Refused refusal.PrimaryShort) = RoomShort
unlisted_by (Refused refusal.AlternateShort) = RoomShort

-- the fault of a refusal
abbrev pub fault_of : Unlisted → Fault
fault_of TooLong = fault.TooLong
fault_of (NotAscii at) = fault.NotAscii
fault_of UnknownEdition = NotKnown
fault_of RoomShort = NoRoom

abbrev pub place_of_refusal : Unlisted → ℕ
place_of_refusal TooLong = 0
place_of_refusal (NotAscii at) = at
place_of_refusal UnknownEdition = 0
place_of_refusal RoomShort = 0

abbrev pub number_of : Told → ℕ
number_of (Ok n) = 0
number_of (Err r) = faults.number_of (fault_of r)

abbrev pub place_of : Told → ℕ
place_of (Ok n) = 0
place_of (Err r) = place_of_refusal r

abbrev pub rows_of : Told → ℕ
rows_of (Ok n) = n
rows_of (Err r) = 0
