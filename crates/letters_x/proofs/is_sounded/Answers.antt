-- `letters_x::is_sounded` meets its contract: its expression is the condition.
use mathlib.Core.Path.{refl}
use Rattle.rules.specs.Cond.{holds}
use Rattle.letters_x.proofs.is_sounded.Goals as goal

pub returns-then-from_end : goal.returns-then-from_end
unfolding holds
returns-then-from_end c = rw (← c.from_end.ensures) (rw c.if-from_end.true (cc))

pub returns-else-from_end : goal.returns-else-from_end
unfolding holds
returns-else-from_end c = rw (← c.from_end.ensures) (rw c.if-from_end.false refl)
