-- `letters_chr::is_van_or_von` meets its contract: each edition asks its own window; edition 1's is asked for the two texts one by one.
use mathlib.Core.Path.{sym, ap₂, ◌∙◌}
use mathlib.Core.Bool.{◌||◌, or-false}
use Rattle.windows.proofs.Facts.{sees_two}
use Rattle.rules.specs.Cond.{holds}
use Rattle.letters_chr.proofs.is_van_or_von.Goals as goal

pub returns-then-second : goal.returns-then-second
unfolding holds
returns-then-second c = rw c.if-second.true (c.front.ensures ∙ sym (or-false _))

pub returns-else-second : goal.returns-else-second
unfolding holds
returns-else-second c =
    rw c.if-second.false (ap₂ ◌||◌ c.window_is.ensures c.window_is-else-second.ensures ∙ sees_two _ _ _ _ _)
