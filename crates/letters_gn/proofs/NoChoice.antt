-- No public function's promise leaves a choice: for the same arguments, any two results that it admits are equal.
use mathlib.Core.Path.{sym, ◌∙◌}
use Rattle.basics.proofs.Choice.{OneResult}
use Rattle.letters_gn.proofs.handle_gn.Kinds as handle-gn-kinds
use Rattle.letters_gn.proofs.handle_gn.Reads as handle-gn

pub one_handle_gn : OneResult handle-gn-kinds.ps handle-gn-kinds.r handle-gn.Post
one_handle_gn κs a x y s t p q = p ∙ sym q
