-- No public function's promise leaves a choice: for the same arguments, any two results that it admits are equal.
use mathlib.Core.Path.{sym, ◌∙◌}
use Rattle.basics.proofs.Choice.{OneResult}
use Rattle.letters_ge.proofs.handle_g_last.Kinds as handle-g-last-kinds
use Rattle.letters_ge.proofs.handle_g_last.Reads as handle-g-last

pub one_handle_g_last : OneResult handle-g-last-kinds.ps handle-g-last-kinds.r handle-g-last.Post
one_handle_g_last κs a x y s t p q = p ∙ sym q
