-- No public function's promise leaves a choice: for the same arguments, any two results that it admits are equal.
use mathlib.Core.Path.{sym, ◌∙◌}
use Rattle.basics.proofs.Choice.{OneResult}
use Rattle.name.proofs.name_at.Kinds as name-at-kinds
use Rattle.name.proofs.name_at.Reads as name-at

pub one_name_at : OneResult name-at-kinds.ps name-at-kinds.r name-at.Post
one_name_at κs a x y s t p q = p ∙ sym q
