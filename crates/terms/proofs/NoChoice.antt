-- No public function's promise leaves a choice: for the same arguments, any two results that it admits are equal.
use mathlib.Core.Path.{sym, ◌∙◌}
use Rattle.basics.proofs.Choice.{OneResult}
use Rattle.terms.proofs.Edition.is_second.Kinds as is-second-kinds
use Rattle.terms.proofs.Edition.is_second.Reads as is-second
use Rattle.terms.proofs.edition_of.Kinds as edition-of-kinds
use Rattle.terms.proofs.edition_of.Reads as edition-of
use Rattle.terms.proofs.EditionTryFromU64.try_from.Kinds as named-kinds
use Rattle.terms.proofs.EditionTryFromU64.try_from.Reads as named
use Rattle.terms.proofs.U8FromFault.from.Kinds as number-kinds
use Rattle.terms.proofs.U8FromFault.from.Reads as number

pub one_is_second : OneResult is-second-kinds.ps is-second-kinds.r is-second.Post
one_is_second κs a x y s t p q = p ∙ sym q

pub one_edition_of : OneResult edition-of-kinds.ps edition-of-kinds.r edition-of.Post
one_edition_of κs a x y s t p q = p ∙ sym q

pub one_named : OneResult named-kinds.ps named-kinds.r named.Post
one_named κs a x y s t p q = p ∙ sym q

pub one_number : OneResult number-kinds.ps number-kinds.r number.Post
one_number κs a x y s t p q = p ∙ sym q
