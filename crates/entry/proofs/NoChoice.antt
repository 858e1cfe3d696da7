-- No public function's promise leaves a choice: for the same arguments, any two results that it admits are equal.
use mathlib.Core.Path.{sym, ◌∙◌}
use Rattle.basics.proofs.Choice.{OneResult}
use Rattle.entry.proofs.record_at.Kinds as record-at-kinds
use Rattle.entry.proofs.record_at.Reads as record-at
use Rattle.entry.proofs.U32FromKind.from.Kinds as number-kinds
use Rattle.entry.proofs.U32FromKind.from.Reads as number
use Rattle.entry.proofs.KindTryFromU32.try_from.Kinds as named-kinds
use Rattle.entry.proofs.KindTryFromU32.try_from.Reads as named

pub one_record_at : OneResult record-at-kinds.ps record-at-kinds.r record-at.Post
one_record_at κs a x y s t p q = p ∙ sym q

pub one_number : OneResult number-kinds.ps number-kinds.r number.Post
one_number κs a x y s t p q = p ∙ sym q

pub one_kind : OneResult named-kinds.ps named-kinds.r named.Post
one_kind κs a x y s t p q = p ∙ sym q
