-- No public function's promise leaves a choice: for the same arguments, any two results that it admits are equal.
use mathlib.Core.Path.{sym, ◌∙◌}
use Rattle.basics.proofs.Choice.{OneResult}
use Rattle.letters_cc.proofs.handle_cc.Kinds as handle-cc-kinds
use Rattle.letters_cc.proofs.handle_cc.Reads as handle-cc

pub one_handle_cc : OneResult handle-cc-kinds.ps handle-cc-kinds.r handle-cc.Post
one_handle_cc κs a x y s t p q = p ∙ sym q
