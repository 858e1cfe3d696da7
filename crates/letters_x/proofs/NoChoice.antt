-- No public function's promise leaves a choice: for the same arguments, any two results that it admits are equal.
use mathlib.Core.Path.{sym, ◌∙◌}
use Rattle.basics.proofs.Choice.{OneResult}
use Rattle.letters_x.proofs.handle_x.Kinds as handle-x-kinds
use Rattle.letters_x.proofs.handle_x.Reads as handle-x

pub one_handle_x : OneResult handle-x-kinds.ps handle-x-kinds.r handle-x.Post
one_handle_x κs a x y s t p q = p ∙ sym q
