-- No public function's promise leaves a choice: for the same arguments, any two results that it admits are equal.
use mathlib.Core.Path.{sym, ◌∙◌}
use Rattle.basics.proofs.Choice.{OneResult}
use Rattle.letters_m.proofs.handle_m.Kinds as handle-m-kinds
use Rattle.letters_m.proofs.handle_m.Reads as handle-m

pub one_handle_m : OneResult handle-m-kinds.ps handle-m-kinds.r handle-m.Post
one_handle_m κs a x y s t p q = p ∙ sym q
