-- No public function's promise leaves a choice: for the same arguments, any two results that it admits are equal.
use mathlib.Core.Path.{sym, ◌∙◌}
use Rattle.basics.proofs.Choice.{OneResult}
use Rattle.letters_d.proofs.handle_d.Kinds as handle-d-kinds
use Rattle.letters_d.proofs.handle_d.Reads as handle-d

pub one_handle_d : OneResult handle-d-kinds.ps handle-d-kinds.r handle-d.Post
one_handle_d κs a x y s t p q = p ∙ sym q
