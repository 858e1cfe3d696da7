-- `number::read_from` goes down by the groups that are left.
use Rattle.number.proofs.+read_from.Given as goal

abbrev pub decreases-read_from : goal.decreases-read_from
decreases-read_from l = l.left
