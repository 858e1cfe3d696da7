-- No public function's promise leaves a choice: for the same arguments, any two results that it admits are equal.
use mathlib.Core.Path.{sym, ◌∙◌}
use Rattle.basics.proofs.Choice.{OneResult}
use Rattle.letters_l.proofs.handle_l.Kinds as handle-l-kinds
use Rattle.letters_l.proofs.handle_l.Reads as handle-l

pub one_handle_l : OneResult handle-l-kinds.ps handle-l-kinds.r handle-l.Post
one_handle_l κs a x y s t p q = p ∙ sym q
