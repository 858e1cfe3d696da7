-- No public function's promise leaves a choice: for the same arguments, any two results, and any two lent arrays at exit,
-- that it admits are equal.
use mathlib.Core.Path.{sym, ◌∙◌}
use Rattle.basics.proofs.Choice.{OneResult}
use Rattle.asking.proofs.limit_of.Kinds as limit-of-kinds
use Rattle.asking.proofs.limit_of.Reads as limit-of
use Rattle.asking.proofs.choice_of.Kinds as choice-of-kinds
use Rattle.asking.proofs.choice_of.Reads as choice-of

pub one_limit : OneResult limit-of-kinds.ps limit-of-kinds.r limit-of.Post
one_limit κs a x y s t p q = p ∙ sym q

pub one_choice_of : OneResult choice-of-kinds.ps choice-of-kinds.r choice-of.Post
one_choice_of κs a x y s t p q = p ∙ sym q
