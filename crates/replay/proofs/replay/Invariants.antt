-- `replay::replay` counts no more lines than the text has bytes.
use Rattle.std.proofs.Common.{◌+◌, ◌≤◌, length}
use Rattle.replay.proofs.replay.Given as goal

abbrev pub invariant-loop-ended : goal.invariant-loop-ended
invariant-loop-ended l =
    (goal.iterator-loop-ended).can_next l.ended-iterator
    × (goal.iterator-loop-ended).is_finite l.ended-iterator
    × (l.right + l.wrong + (goal.iterator-loop-ended).remaining l.ended-iterator ≤ length l.text)
