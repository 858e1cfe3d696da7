-- No public function's promise leaves a choice: for the same arguments, any two results that it admits are equal.
use mathlib.Core.Path.{sym, ◌∙◌}
use Rattle.basics.proofs.Choice.{OneResult}
use Rattle.letters_r.proofs.handle_r.Kinds as handle-r-kinds
use Rattle.letters_r.proofs.handle_r.Reads as handle-r

pub one_handle_r : OneResult handle-r-kinds.ps handle-r-kinds.r handle-r.Post
one_handle_r κs a x y s t p q = p ∙ sym q
