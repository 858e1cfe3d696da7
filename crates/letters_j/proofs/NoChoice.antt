-- No public function's promise leaves a choice: for the same arguments, any two results that it admits are equal.
use mathlib.Core.Path.{sym, ◌∙◌}
use Rattle.basics.proofs.Choice.{OneResult}
use Rattle.letters_j.proofs.handle_j.Kinds as handle-j-kinds
use Rattle.letters_j.proofs.handle_j.Reads as handle-j

pub one_handle_j : OneResult handle-j-kinds.ps handle-j-kinds.r handle-j.Post
one_handle_j κs a x y s t p q = p ∙ sym q
