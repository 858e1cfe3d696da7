-- For the proofs: the tree of J in no Spanish name, which follows the code branch by branch.
use Rattle.rules.specs.Cond.{left}
use Rattle.rules.specs.Plain.{next}
use Rattle.rules.specs.CasesDL.{first_j, between_vowels, plain_j}
use Rattle.rules.specs.Tree.{Tree, ask, over}

unfoldable pub tree_j_other : Tree
tree_j_other =
    ask first_j (over 3 (next "J") "J" "A")
    (ask between_vowels (over 5 (next "J") "J" "H")
    (ask (left 0) (over 7 (next "J") "J" " ")
    (ask plain_j (over 9 (next "J") "J" "J")
    (over 11 (next "J") "" ""))))
