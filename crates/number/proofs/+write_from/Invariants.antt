-- `number::write_from` goes down by the groups that are left.
use Rattle.number.proofs.+write_from.Given as goal

abbrev pub decreases-write_from : goal.decreases-write_from
decreases-write_from l = l.left
