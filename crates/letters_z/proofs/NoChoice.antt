-- No public function's promise leaves a choice: for the same arguments, any two results that it admits are equal.
use mathlib.Core.Path.{sym, ◌∙◌}
use Rattle.basics.proofs.Choice.{OneResult}
use Rattle.letters_z.proofs.handle_z.Kinds as handle-z-kinds
use Rattle.letters_z.proofs.handle_z.Reads as handle-z

pub one_handle_z : OneResult handle-z-kinds.ps handle-z-kinds.r handle-z.Post
one_handle_z κs a x y s t p q = p ∙ sym q
