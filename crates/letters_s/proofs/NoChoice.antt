-- No public function's promise leaves a choice: for the same arguments, any two results that it admits are equal.
use mathlib.Core.Path.{sym, ◌∙◌}
use Rattle.basics.proofs.Choice.{OneResult}
use Rattle.letters_s.proofs.handle_s.Kinds as handle-s-kinds
use Rattle.letters_s.proofs.handle_s.Reads as handle-s

pub one_handle_s : OneResult handle-s-kinds.ps handle-s-kinds.r handle-s.Post
one_handle_s κs a x y s t p q = p ∙ sym q
