-- `letters_h::handle_h` meets its contract: at each return the tests on the way lead the tree there.
use Rattle.rules.specs.Cond.{holds}
use Rattle.rules.proofs.Tree.{spoken, says}
use Rattle.letters_h.specs.Trees.{tree_h}
use Rattle.letters_h.proofs.Ways.{ways_h}
use Rattle.letters_h.proofs.handle_h.Goals as goal

pub is_before_vowel-requires : goal.is_before_vowel-requires
unfolding holds tree_h
is_before_vowel-requires c = tt

pub both-requires : goal.both-requires
unfolding holds tree_h
both-requires c = tt

pub both-requires-else-is_before_vowel : goal.both-requires-else-is_before_vowel
unfolding holds tree_h
both-requires-else-is_before_vowel c = tt

pub returns-then-is_before_vowel : goal.returns-then-is_before_vowel
unfolding holds tree_h
returns-then-is_before_vowel c = spoken ways_h (search says depth 14)

pub returns-else-is_before_vowel : goal.returns-else-is_before_vowel
unfolding holds tree_h
returns-else-is_before_vowel c = spoken ways_h (search says depth 14)
