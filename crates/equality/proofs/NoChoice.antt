-- No public function's promise leaves a choice: for the same arguments, any two results that it admits are equal.
use mathlib.Core.Path.{sym, ◌∙◌}
use Rattle.basics.proofs.Choice.{OneResult}
use Rattle.equality.proofs.equal.Kinds as equal-kinds
use Rattle.equality.proofs.equal.Reads as equal

pub one_equal : OneResult equal-kinds.ps equal-kinds.r equal.Post
one_equal κs a x y s t p q = p.answer ∙ sym q.answer
