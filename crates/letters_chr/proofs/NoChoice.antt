-- No public function's promise leaves a choice: for the same arguments, any two results that it admits are equal.
use mathlib.Core.Path.{sym, ◌∙◌}
use Rattle.basics.proofs.Choice.{OneResult}
use Rattle.letters_chr.proofs.is_greek.Kinds as is-greek-kinds
use Rattle.letters_chr.proofs.is_greek.Reads as is-greek

pub one_is_greek : OneResult is-greek-kinds.ps is-greek-kinds.r is-greek.Post
one_is_greek κs a x y s t p q = p ∙ sym q
