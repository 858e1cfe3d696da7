-- No public function's promise leaves a choice: for the same arguments, any two results that it admits are equal.
use mathlib.Core.Path.{sym, ◌∙◌}
use Rattle.basics.proofs.Choice.{OneResult}
use Rattle.letters_j_other.proofs.handle_j_other.Kinds as handle-j-other-kinds
use Rattle.letters_j_other.proofs.handle_j_other.Reads as handle-j-other

pub one_handle_j_other : OneResult handle-j-other-kinds.ps handle-j-other-kinds.r handle-j-other.Post
one_handle_j_other κs a x y s t p q = p ∙ sym q
