-- No public function's promise leaves a choice: for the same arguments, any two results that it admits are equal.
use mathlib.Core.Path.{sym, ◌∙◌}
use Rattle.basics.proofs.Choice.{OneResult}
use Rattle.needs.proofs.need_of.Kinds as need-of-kinds
use Rattle.needs.proofs.need_of.Reads as need-of
use Rattle.needs.proofs.cap_of.Kinds as cap-of-kinds
use Rattle.needs.proofs.cap_of.Reads as cap-of

pub one_need_of : OneResult need-of-kinds.ps need-of-kinds.r need-of.Post
one_need_of κs a x y s t p q = p ∙ sym q

pub one_cap_of : OneResult cap-of-kinds.ps cap-of-kinds.r cap-of.Post
one_cap_of κs a x y s t p q = p ∙ sym q
