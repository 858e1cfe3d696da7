-- `letters_gn::handle_gn` meets its contract: at each return the tests on the way lead the tree there.
use Rattle.rules.specs.Cond.{holds}
use Rattle.rules.proofs.Tree.{said, says-marked}
use Rattle.letters_gn.specs.Trees.{tree_gn}
use Rattle.letters_gn.proofs.handle_gn.Goals as goal

pub is_gn_second-requires : goal.is_gn_second-requires
unfolding holds tree_gn
is_gn_second-requires c = tt

pub split-requires : goal.split-requires
unfolding holds tree_gn
split-requires c = tt

pub is_gn_other-requires : goal.is_gn_other-requires
unfolding holds tree_gn
is_gn_other-requires c = c.requires

pub split-requires-then-is_gn_other : goal.split-requires-then-is_gn_other
unfolding holds tree_gn
split-requires-then-is_gn_other c = tt

pub both-requires : goal.both-requires
unfolding holds tree_gn
both-requires c = tt

pub returns-then-is_gn_second : goal.returns-then-is_gn_second
unfolding holds tree_gn
returns-then-is_gn_second c = said (search says-marked depth 14)

pub returns-then-is_gn_other : goal.returns-then-is_gn_other
unfolding holds tree_gn
returns-then-is_gn_other c = said (search says-marked depth 14)

pub returns-else-is_gn_other : goal.returns-else-is_gn_other
unfolding holds tree_gn
returns-else-is_gn_other c = said (search says-marked depth 14)
