-- No public function's promise leaves a choice: for the same arguments, any two results that it admits are equal.
use mathlib.Core.Path.{sym, ◌∙◌}
use Rattle.basics.proofs.Choice.{OneResult}
use Rattle.letters_w.proofs.handle_w.Kinds as handle-w-kinds
use Rattle.letters_w.proofs.handle_w.Reads as handle-w

pub one_handle_w : OneResult handle-w-kinds.ps handle-w-kinds.r handle-w.Post
one_handle_w κs a x y s t p q = p ∙ sym q
