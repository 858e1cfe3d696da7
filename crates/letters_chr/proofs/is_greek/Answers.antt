-- `letters_chr::is_greek` meets its contract: its expression is the condition.
use mathlib.Core.Path.{refl}
use Rattle.rules.specs.Cond.{holds}
use Rattle.letters_chr.proofs.is_greek.Goals as goal

pub condition_ch0-requires : goal.condition_ch0-requires
unfolding holds
condition_ch0-requires c = tt

pub condition_ch1-requires : goal.condition_ch1-requires
unfolding holds
condition_ch1-requires c = tt

pub returns-then-condition_ch0 : goal.returns-then-condition_ch0
unfolding holds
returns-then-condition_ch0 c = rw (← c.condition_ch0.ensures) (rw c.if-condition_ch0.true refl)

pub returns-else-condition_ch0 : goal.returns-else-condition_ch0
unfolding holds
returns-else-condition_ch0 c = rw (← c.condition_ch0.ensures) (rw c.if-condition_ch0.false (cc))
