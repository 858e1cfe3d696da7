-- `letters_j_other::handle_j_other` meets its contract: at each return the tests on the way lead the tree there.
use Rattle.std.proofs.Common.{rules}
use Rattle.rules.specs.Cond.{holds}
use Rattle.rules.proofs.Tree.{said}
use Rattle.letters_j_other.specs.Trees.{tree_j_other}
use Rattle.letters_j_other.proofs.FirstJ.{Says-first}
use Rattle.letters_j_other.proofs.handle_j_other.Goals as goal

pub char_ahead-doubled-requires : goal.char_ahead-doubled-requires
unfolding holds tree_j_other
char_ahead-doubled-requires c = tt

pub either-requires : goal.either-requires
unfolding holds tree_j_other
either-requires c = search rules

pub is_between_vowels-requires : goal.is_between_vowels-requires
unfolding holds tree_j_other
is_between_vowels-requires c = tt

pub either-requires-then-is_between_vowels : goal.either-requires-then-is_between_vowels
unfolding holds tree_j_other
either-requires-then-is_between_vowels c = search rules

pub from_end-requires : goal.from_end-requires
unfolding holds tree_j_other
from_end-requires c = tt

pub either-requires-then-from_end : goal.either-requires-then-from_end
unfolding holds tree_j_other
either-requires-then-from_end c = search rules

pub is_plain_j-requires : goal.is_plain_j-requires
unfolding holds tree_j_other
is_plain_j-requires c = tt

pub either-requires-then-is_plain_j : goal.either-requires-then-is_plain_j
unfolding holds tree_j_other
either-requires-then-is_plain_j c = search rules

pub either-requires-else-is_plain_j : goal.either-requires-else-is_plain_j
unfolding holds tree_j_other
either-requires-else-is_plain_j c = search rules

pub returns-then-at-eq0 : goal.returns-then-at-eq0
unfolding holds tree_j_other
returns-then-at-eq0 c = said (search Says-first depth 14)

pub returns-then-is_between_vowels : goal.returns-then-is_between_vowels
unfolding holds tree_j_other
returns-then-is_between_vowels c = said (search Says-first depth 14)

pub returns-then-from_end : goal.returns-then-from_end
unfolding holds tree_j_other
returns-then-from_end c = said (search Says-first depth 14)

pub returns-then-is_plain_j : goal.returns-then-is_plain_j
unfolding holds tree_j_other
returns-then-is_plain_j c = said (search Says-first depth 14)

pub returns-else-is_plain_j : goal.returns-else-is_plain_j
unfolding holds tree_j_other
returns-else-is_plain_j c = said (search Says-first depth 14)
