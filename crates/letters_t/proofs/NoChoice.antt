-- No public function's promise leaves a choice: for the same arguments, any two results that it admits are equal.
use mathlib.Core.Path.{sym, ◌∙◌}
use Rattle.basics.proofs.Choice.{OneResult}
use Rattle.letters_t.proofs.handle_t.Kinds as handle-t-kinds
use Rattle.letters_t.proofs.handle_t.Reads as handle-t

pub one_handle_t : OneResult handle-t-kinds.ps handle-t-kinds.r handle-t.Post
one_handle_t κs a x y s t p q = p ∙ sym q
