-- No public function's promise leaves a choice: for the same arguments, any two results that it admits are equal.
use mathlib.Core.Path.{sym, ◌∙◌}
use Rattle.basics.proofs.Choice.{OneResult}
use Rattle.header.proofs.open.Kinds as open-kinds
use Rattle.header.proofs.open.Reads as opens
use Rattle.header.proofs.unknown_fault.Kinds as unknown-fault-kinds
use Rattle.header.proofs.unknown_fault.Reads as unknown-fault
use Rattle.header.proofs.limit_of.Kinds as limit-of-kinds
use Rattle.header.proofs.limit_of.Reads as limit-of

pub one_open : OneResult open-kinds.ps open-kinds.r opens.Post
one_open κs a x y s t p q = p ∙ sym q

pub one_unknown_fault : OneResult unknown-fault-kinds.ps unknown-fault-kinds.r unknown-fault.Post
one_unknown_fault κs a x y s t p q = p ∙ sym q

pub one_limit_of : OneResult limit-of-kinds.ps limit-of-kinds.r limit-of.Post
one_limit_of κs a x y s t p q = p ∙ sym q
