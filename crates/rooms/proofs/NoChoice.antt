-- No promise leaves a choice: any two rooms that it admits are as long, and equal at every place.
use Prim.Native.Nat.{ℕ}
use mir.Val.{Fits}
use mir.Syntax.{w64}
use mathlib.Core.Path.{sym, ◌∙◌}
use lib.Seq.{ext_get_or}
use Rattle.basics.proofs.Choice.{OneResult}
use Rattle.rooms.proofs.zeros.Kinds as zeros-kinds
use Rattle.rooms.proofs.zeros.Reads as zeros
use Rattle.rooms.proofs.mebibyte.Kinds as mebibyte-kinds
use Rattle.rooms.proofs.mebibyte.Reads as mebibyte

pub one_mebibyte : OneResult mebibyte-kinds.ps mebibyte-kinds.r mebibyte.Post
one_mebibyte κs a x y s t p q = ext_get_or 0 _ _ (sym p.0 ∙ q.0) (λ i below. p.1 i ∙ sym (q.1 i))

pub one_zeros : (n : ℕ) (f : Fits w64 n) → OneResult (zeros-kinds.ps n f) (zeros-kinds.r n f) (zeros.Post n f)
one_zeros n f κs a x y s t p q = ext_get_or 0 _ _ (sym p.0 ∙ q.0) (λ i below. p.1 i ∙ sym (q.1 i))
