-- `letters_s::sio_text` meets its contract: its number is that of the condition, SIAN being a SIA.
use mathlib.Core.Path.{◌∙◌}
use Rattle.rules.specs.Told.{text_of}
use Rattle.rules.proofs.Told.{exactly}
use Rattle.letters_s.proofs.Texts.{sio_told, exact_sio}
use Rattle.letters_s.proofs.sio_text.Goals as goal

pub returns : goal.returns
unfolding text_of
returns c =
    let p = exactly _ _ _ _ _ (exact_sio _ _ _) (c.text_ahead.ensures ∙ sio_told _ _) in
    record { tells = p.0; holds = p.1 }
