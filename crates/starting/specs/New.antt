-- A new book, with no records.
use Rattle.std.specs.Prelude.{ℕ, ◌^◌, cond, ltb, Option, Some, None}
use Rattle.terms.specs.declared.Fault.{Fault}
use Rattle.terms.specs.declared.Fault.TheVariants.{BadNumber}
use Rattle.header.specs.declared.Header.{Header}
use Rattle.terms.specs.Editions.{new_format, new_edition}

abbrev pub new_header : ℕ → Header
new_header cut = record { format = new_format; edition = new_edition; cut = cut }

abbrev pub cut_fault : ℕ → Option Fault
cut_fault cut = cond (ltb cut (2 ^ 28)) None (Some BadNumber)
