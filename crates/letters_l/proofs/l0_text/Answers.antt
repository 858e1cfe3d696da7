-- `letters_l::l0_text` meets its contract: its window tells all that the condition tells.
use mathlib.Core.Path.{◌∙◌}
use Rattle.rules.specs.Told.{text_of}
use Rattle.letters_l.proofs.Texts.{l0_told}
use Rattle.letters_l.proofs.l0_text.Goals as goal

pub returns : goal.returns
unfolding text_of
returns c = c.text_behind.ensures ∙ l0_told _ _ _ c.requires
