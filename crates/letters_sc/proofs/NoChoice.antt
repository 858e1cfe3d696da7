-- No public function's promise leaves a choice: for the same arguments, any two results that it admits are equal.
use mathlib.Core.Path.{sym, ◌∙◌}
use Rattle.basics.proofs.Choice.{OneResult}
use Rattle.letters_sc.proofs.handle_sc.Kinds as handle-sc-kinds
use Rattle.letters_sc.proofs.handle_sc.Reads as handle-sc

pub one_handle_sc : OneResult handle-sc-kinds.ps handle-sc-kinds.r handle-sc.Post
one_handle_sc κs a x y s t p q = p ∙ sym q
