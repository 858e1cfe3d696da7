-- No public function's promise leaves a choice: for the same arguments, any two results that it admits are equal.
use mathlib.Core.Path.{sym, ◌∙◌}
use Rattle.basics.proofs.Choice.{OneResult}
use Rattle.byte.proofs.capital.Kinds as capital-kinds
use Rattle.byte.proofs.capital.Reads as capital
use Rattle.byte.proofs.is_vowel.Kinds as is-vowel-kinds
use Rattle.byte.proofs.is_vowel.Reads as is-vowel

pub one_capital : OneResult capital-kinds.ps capital-kinds.r capital.Post
one_capital κs a x y s t p q = p ∙ sym q

pub one_is_vowel : OneResult is-vowel-kinds.ps is-vowel-kinds.r is-vowel.Post
one_is_vowel κs a x y s t p q = p ∙ sym q
