-- No public function's promise leaves a choice: for the same arguments, any two results that it admits are equal.
use mathlib.Core.Path.{sym, ◌∙◌}
use Rattle.basics.proofs.Choice.{OneResult}
use Rattle.ascii.proofs.is_ascii.Kinds as is-ascii-kinds
use Rattle.ascii.proofs.is_ascii.Reads as is_ascii
use Rattle.ascii.proofs.first_high.Kinds as first-high-kinds
use Rattle.ascii.proofs.first_high.Reads as first_high_lem

pub one_is_ascii : OneResult is-ascii-kinds.ps is-ascii-kinds.r is_ascii.Post
one_is_ascii κs a x y s t p q = p ∙ sym q

pub one_first_high : OneResult first-high-kinds.ps first-high-kinds.r first_high_lem.Post
one_first_high κs a x y s t p q = p ∙ sym q
