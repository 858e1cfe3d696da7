-- No public function's promise leaves a choice: for the same arguments, any two results that it admits are equal.
use mathlib.Core.Path.{sym, ◌∙◌}
use Rattle.basics.proofs.Choice.{OneResult}
use Rattle.letters_c.proofs.handle_c.Kinds as handle-c-kinds
use Rattle.letters_c.proofs.handle_c.Reads as handle-c

pub one_handle_c : OneResult handle-c-kinds.ps handle-c-kinds.r handle-c.Post
one_handle_c κs a x y s t p q = p ∙ sym q
