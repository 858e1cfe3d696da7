-- No public function's promise leaves a choice: for the same arguments, any two results that it admits are equal.
use mathlib.Core.Path.{sym, ◌∙◌}
use Rattle.basics.proofs.Choice.{OneResult}
use Rattle.letters_s_next.proofs.handle_s_next.Kinds as handle-s-next-kinds
use Rattle.letters_s_next.proofs.handle_s_next.Reads as handle-s-next

pub one_handle_s_next : OneResult handle-s-next-kinds.ps handle-s-next-kinds.r handle-s-next.Post
one_handle_s_next κs a x y s t p q = p ∙ sym q
