-- No public function's promise leaves a choice: for the same arguments, any two results that it admits are equal.
use mathlib.Core.Path.{sym, ◌∙◌}
use Rattle.basics.proofs.Choice.{OneResult}
use Rattle.letters_ch.proofs.handle_c_before_h.Kinds as handle-c-before-h-kinds
use Rattle.letters_ch.proofs.handle_c_before_h.Reads as handle-c-before-h

pub one_handle_c_before_h : OneResult handle-c-before-h-kinds.ps handle-c-before-h-kinds.r handle-c-before-h.Post
one_handle_c_before_h κs a x y s t p q = p ∙ sym q
