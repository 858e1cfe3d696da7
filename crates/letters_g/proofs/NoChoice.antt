-- No public function's promise leaves a choice: for the same arguments, any two results that it admits are equal.
use mathlib.Core.Path.{sym, ◌∙◌}
use Rattle.basics.proofs.Choice.{OneResult}
use Rattle.letters_g.proofs.handle_g.Kinds as handle-g-kinds
use Rattle.letters_g.proofs.handle_g.Reads as handle-g

pub one_handle_g : OneResult handle-g-kinds.ps handle-g-kinds.r handle-g.Post
one_handle_g κs a x y s t p q = p ∙ sym q
