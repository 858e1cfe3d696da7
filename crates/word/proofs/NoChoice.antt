-- No public function's promise leaves a choice: for the same arguments, any two results that it admits are equal.
use mathlib.Core.Path.{sym, ◌∙◌}
use Rattle.basics.proofs.Choice.{OneResult}
use Rattle.word.proofs.one_if.Kinds as one-if-kinds
use Rattle.word.proofs.one_if.Reads as one-if
use Rattle.word.proofs.is_slavo_germanic.Kinds as is-slavo-germanic-kinds
use Rattle.word.proofs.is_slavo_germanic.Reads as is-slavo-germanic
use Rattle.word.proofs.start_of.Kinds as start-of-kinds
use Rattle.word.proofs.start_of.Reads as start_of_lem

pub one_one_if : OneResult one-if-kinds.ps one-if-kinds.r one-if.Post
one_one_if κs a x y s t p q = p ∙ sym q

pub one_is_slavo_germanic : OneResult is-slavo-germanic-kinds.ps is-slavo-germanic-kinds.r is-slavo-germanic.Post
one_is_slavo_germanic κs a x y s t p q = p ∙ sym q

pub one_start_of : OneResult start-of-kinds.ps start-of-kinds.r start_of_lem.Post
one_start_of κs a x y s t p q = p ∙ sym q
