-- No public function's promise leaves a choice: for the same arguments, any two results that it admits are equal.
use mathlib.Core.Path.{sym, ◌∙◌}
use Rattle.basics.proofs.Choice.{OneResult}
use Rattle.book.proofs.next.Kinds as next-kinds
use Rattle.book.proofs.next.Reads as next
use Rattle.book.proofs.records_from.Kinds as records-from-kinds
use Rattle.book.proofs.records_from.Reads as records-from
use Rattle.book.proofs.read.Kinds as read-kinds
use Rattle.book.proofs.read.Reads as read
use Rattle.book.proofs.read_in.Kinds as read-in-kinds
use Rattle.book.proofs.read_in.Reads as read-in

pub one_next : OneResult next-kinds.ps next-kinds.r next.Post
one_next κs a x y s t p q = p ∙ sym q

pub one_records_from : OneResult records-from-kinds.ps records-from-kinds.r records-from.Post
one_records_from κs a x y s t p q = p ∙ sym q

pub one_read : OneResult read-kinds.ps read-kinds.r read.Post
one_read κs a x y s t p q = p ∙ sym q

pub one_read_in : OneResult read-in-kinds.ps read-in-kinds.r read-in.Post
one_read_in κs a x y s t p q = p ∙ sym q
