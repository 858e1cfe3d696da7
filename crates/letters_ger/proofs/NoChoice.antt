-- No public function's promise leaves a choice: for the same arguments, any two results that it admits are equal.
use mathlib.Core.Path.{sym, ◌∙◌}
use Rattle.basics.proofs.Choice.{OneResult}
use Rattle.letters_ger.proofs.is_ger.Kinds as is-ger-kinds
use Rattle.letters_ger.proofs.is_ger.Reads as is-ger
use Rattle.letters_ger.proofs.ger_text.Kinds as ger-text-kinds
use Rattle.letters_ger.proofs.ger_text.Reads as ger-text

pub one_is_ger : OneResult is-ger-kinds.ps is-ger-kinds.r is-ger.Post
one_is_ger κs a x y s t p q = p ∙ sym q

pub one_ger_text : OneResult ger-text-kinds.ps ger-text-kinds.r ger-text.Post
one_ger_text κs a x y s t p q = p ∙ sym q
