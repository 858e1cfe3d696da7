-- No public function's promise leaves a choice: for the same arguments, any two results that it admits are equal.
use mathlib.Core.Path.{sym, ◌∙◌}
use Rattle.basics.proofs.Choice.{OneResult}
use Rattle.tally.proofs.Tally.counted.Kinds as counted-kinds
use Rattle.tally.proofs.Tally.counted.Reads as counted

pub one_counted : OneResult counted-kinds.ps counted-kinds.r counted.Post
one_counted κs a x y s t p q = p ∙ sym q
