-- For the proofs: the trees of L, which follow the code branch by branch. proofs/Ways.antt shows that their ways are the
-- cases of the definition.
use Rattle.rules.specs.Plain.{next}
use Rattle.rules.specs.CasesDL.{condition_l0}
use Rattle.rules.specs.Tree.{Tree, say, ask}

unfoldable pub tree_l : Tree
tree_l =
    ask (next "L")
    (ask condition_l0 (say 1 "L" "" 1) (say 2 "L" "L" 1))
    (say 3 "L" "L" 0)
