-- `letters_cc::handle_cc` meets its contract: at each return the tests on the way lead the tree there.
use Rattle.rules.specs.Cond.{holds}
use Rattle.rules.proofs.Tree.{said, says, texts}
use Rattle.letters_cc.specs.Trees.{tree_cc}
use Rattle.letters_cc.proofs.handle_cc.Goals as goal

pub is_bellocchio-requires : goal.is_bellocchio-requires
unfolding holds tree_cc
is_bellocchio-requires c = tt

pub is_accede-requires : goal.is_accede-requires
unfolding holds tree_cc
is_accede-requires c = tt

pub both-requires : goal.both-requires
unfolding holds tree_cc
both-requires c = tt

pub both-requires-else-is_accede : goal.both-requires-else-is_accede
unfolding holds tree_cc
both-requires-else-is_accede c = tt

pub both-requires-else-is_bellocchio : goal.both-requires-else-is_bellocchio
unfolding holds tree_cc
both-requires-else-is_bellocchio c = tt

pub returns-then-is_accede : goal.returns-then-is_accede
unfolding holds tree_cc
returns-then-is_accede c = said (search (says, texts) depth 14)

pub returns-else-is_accede : goal.returns-else-is_accede
unfolding holds tree_cc
returns-else-is_accede c = said (search (says, texts) depth 14)

pub returns-else-is_bellocchio : goal.returns-else-is_bellocchio
unfolding holds tree_cc
returns-else-is_bellocchio c = said (search (says, texts) depth 14)
