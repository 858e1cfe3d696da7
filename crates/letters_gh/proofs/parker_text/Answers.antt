-- `letters_gh::parker_text` meets its contract: its numbers are those of the condition.
use Rattle.rules.specs.Told.{text_of}
use Rattle.rules.proofs.Told.{exactly}
use Rattle.letters_gh.proofs.Exact.{exact_parker}
use Rattle.letters_gh.proofs.parker_text.Goals as goal

pub returns : goal.returns
unfolding text_of
returns c =
    let p = exactly _ _ _ _ _ (exact_parker _ _ _) (cc) in
    record { tells = p.0; holds = p.1 }
