-- What is asked of a stored name: its length is judged before any byte of it, and its bytes before its end is missed.
use Rattle.std.specs.Prelude.{ℕ, cond, ltb, leb, Option, Some, None}
use Rattle.terms.specs.declared.Fault.{Fault}
use Rattle.terms.specs.declared.Fault.TheVariants.{TooLong, NotAscii}
use Rattle.terms.specs.Limits.{word_limit}

abbrev pub name_length : ℕ → Option Fault
name_length n = cond (ltb word_limit n) (Some TooLong) None

abbrev pub name_byte : ℕ → Option Fault
name_byte b = cond (leb 128 b) (Some NotAscii) None
