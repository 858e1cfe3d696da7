-- No public function's promise leaves a choice: for the same arguments, any two results that it admits are equal.
use mathlib.Core.Path.{sym, ◌∙◌}
use Rattle.basics.proofs.Choice.{OneResult}
use Rattle.spots.proofs.char_ahead.Kinds as char-ahead-kinds
use Rattle.spots.proofs.char_ahead.Reads as char-ahead
use Rattle.spots.proofs.char_behind.Kinds as char-behind-kinds
use Rattle.spots.proofs.char_behind.Reads as char-behind
use Rattle.spots.proofs.vowel_ahead.Kinds as vowel-ahead-kinds
use Rattle.spots.proofs.vowel_ahead.Reads as vowel-ahead
use Rattle.spots.proofs.vowel_behind.Kinds as vowel-behind-kinds
use Rattle.spots.proofs.vowel_behind.Reads as vowel-behind
use Rattle.spots.proofs.from_end.Kinds as from-end-kinds
use Rattle.spots.proofs.from_end.Reads as from_end
use Rattle.spots.proofs.has_length.Kinds as has-length-kinds
use Rattle.spots.proofs.has_length.Reads as has-length

pub one_char_ahead : OneResult char-ahead-kinds.ps char-ahead-kinds.r char-ahead.Post
one_char_ahead κs a x y s t p q = p ∙ sym q

pub one_char_behind : OneResult char-behind-kinds.ps char-behind-kinds.r char-behind.Post
one_char_behind κs a x y s t p q = p ∙ sym q

pub one_vowel_ahead : OneResult vowel-ahead-kinds.ps vowel-ahead-kinds.r vowel-ahead.Post
one_vowel_ahead κs a x y s t p q = p ∙ sym q

pub one_vowel_behind : OneResult vowel-behind-kinds.ps vowel-behind-kinds.r vowel-behind.Post
one_vowel_behind κs a x y s t p q = p ∙ sym q

pub one_from_end : OneResult from-end-kinds.ps from-end-kinds.r from_end.Post
one_from_end κs a x y s t p q = p ∙ sym q

pub one_has_length : OneResult has-length-kinds.ps has-length-kinds.r has-length.Post
one_has_length κs a x y s t p q = p ∙ sym q
