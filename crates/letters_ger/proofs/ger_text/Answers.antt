-- `letters_ger::ger_text` meets its contract: its window tells all that the condition tells.
use mathlib.Core.Path.{◌∙◌}
use Rattle.letters_ger.proofs.Texts.{ger_told}
use Rattle.letters_ger.proofs.ger_text.Goals as goal

pub returns : goal.returns
returns c = c.text_ahead.ensures ∙ ger_told _ _
