-- No public function's promise leaves a choice: for the same arguments, any two results that it admits are equal.
use mathlib.Core.Path.{sym, ◌∙◌}
use Rattle.basics.proofs.Choice.{OneResult}
use Rattle.comparing.proofs.same_bytes.Kinds as same-bytes-kinds
use Rattle.comparing.proofs.same_bytes.Reads as same_bytes

pub one_same_bytes : OneResult same-bytes-kinds.ps same-bytes-kinds.r same_bytes.Post
one_same_bytes κs a x y s t p q = p ∙ sym q
