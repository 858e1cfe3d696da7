-- No public function's promise leaves a choice: for the same arguments, any two results that it admits are equal.
use mathlib.Core.Path.{sym, ◌∙◌}
use Rattle.basics.proofs.Choice.{OneResult}
use Rattle.finding.proofs.find_live.Kinds as find-live-kinds
use Rattle.finding.proofs.find_live.Reads as find-live

pub one_find_live : OneResult find-live-kinds.ps find-live-kinds.r find-live.Post
one_find_live κs a x y s t p q = p.answer ∙ sym q.answer
