-- No public function's promise leaves a choice: for the same arguments, any two results that it admits are equal, and so are the
-- lent tallies at exit. Of `visit_into`, which is lent a struct, the promise is a proposition of the logic: two together give the
-- equations.
use mathlib.Core.Path.{sym, ◌∙◌}
use Rattle.basics.proofs.Choice.{OneResult}
use Rattle.letters_plain.proofs.handle_vowel.Kinds as handle-vowel-kinds
use Rattle.letters_plain.proofs.handle_vowel.Reads as handle-vowel
use Rattle.letters_plain.proofs.handle_plain.Kinds as handle-plain-kinds
use Rattle.letters_plain.proofs.handle_plain.Reads as handle-plain

pub one_handle_vowel : OneResult handle-vowel-kinds.ps handle-vowel-kinds.r handle-vowel.Post
one_handle_vowel κs a x y s t p q = p ∙ sym q

pub one_handle_plain : OneResult handle-plain-kinds.ps handle-plain-kinds.r handle-plain.Post
one_handle_plain κs a x y s t p q = p ∙ sym q
