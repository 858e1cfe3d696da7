-- `letters_s::island_text` meets its contract: its number is that of the condition.
use native.Mathlib.Omega.{arith}
use Rattle.rules.specs.Told.{text_of}
use Rattle.rules.proofs.Told.{exactly, exact_past}
use Rattle.letters_s.proofs.island_text.Goals as goal

pub returns : goal.returns
unfolding text_of
returns c =
    let p = exactly _ _ _ _ _ (exact_past _ _ _ 0 1 3 _ (omega arith)) c.text_behind.ensures in
    record { tells = p.0; holds = p.1 }
