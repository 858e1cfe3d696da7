-- The kinds of a record, by their numbers.
use Rattle.std.specs.Prelude.{ℕ, cond, eqb, leb, Option, Some, None, Result, Ok, Err}
use Rattle.terms.specs.declared.Fault.{Fault}
use Rattle.terms.specs.declared.Fault.TheVariants.{NotKnown}
use Rattle.entry.specs.declared.Kind.{Kind}
use Rattle.entry.specs.declared.Kind.TheVariants.{Closed, Live}

-- those from 0 to 1 are known
abbrev pub kinds : ℕ → Option Fault
kinds v = cond (leb v 1) None (Some NotKnown)

abbrev pub number_of : Kind → ℕ
number_of Closed = 0
number_of Live = 1

-- the kind of a number that is known
abbrev pub kind_of : ℕ → Kind
kind_of n = cond (eqb n 1) Live Closed

-- what a number names: its kind, or the fault
abbrev pub kind_named : ℕ → Result Kind Fault
kind_named n = cond (leb n 1) (Ok (kind_of n)) (Err NotKnown)
