-- `letters_chr::is_kh_before` meets its contract: its expression is the condition.
use Rattle.rules.specs.Cond.{holds}
use Rattle.letters_chr.proofs.is_kh_before.Goals as goal

pub returns : goal.returns
unfolding holds
returns c = cc
