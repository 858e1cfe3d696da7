-- `letters_s_next::artois_text` meets its contract: its number is that of the condition, and where that holds it is not 0.
use Rattle.rules.specs.Told.{text_of}
use Rattle.letters_s_next.proofs.Texts.{artois_told}
use Rattle.letters_s_next.proofs.artois_text.Goals as goal

pub returns : goal.returns
unfolding text_of
returns c =
    record { tells = c.text_behind.ensures; held = artois_told _ _ _ _ c.requires c.text_behind.ensures }
