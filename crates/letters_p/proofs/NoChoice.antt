-- No public function's promise leaves a choice: for the same arguments, any two results that it admits are equal.
use mathlib.Core.Path.{sym, ◌∙◌}
use Rattle.basics.proofs.Choice.{OneResult}
use Rattle.letters_p.proofs.handle_p.Kinds as handle-p-kinds
use Rattle.letters_p.proofs.handle_p.Reads as handle-p

pub one_handle_p : OneResult handle-p-kinds.ps handle-p-kinds.r handle-p.Post
one_handle_p κs a x y s t p q = p ∙ sym q
