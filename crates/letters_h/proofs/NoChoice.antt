-- No public function's promise leaves a choice: for the same arguments, any two results that it admits are equal.
use mathlib.Core.Path.{sym, ◌∙◌}
use Rattle.basics.proofs.Choice.{OneResult}
use Rattle.letters_h.proofs.handle_h.Kinds as handle-h-kinds
use Rattle.letters_h.proofs.handle_h.Reads as handle-h

pub one_handle_h : OneResult handle-h-kinds.ps handle-h-kinds.r handle-h.Post
one_handle_h κs a x y s t p q = p ∙ sym q
