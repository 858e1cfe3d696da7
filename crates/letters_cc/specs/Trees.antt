-- For the proofs: the trees of a double C, which follow the code branch by branch.
use Rattle.rules.specs.CasesC.{bellocchio, accede}
use Rattle.rules.specs.Tree.{Tree, say, ask}

unfoldable pub tree_cc : Tree
tree_cc =
    ask bellocchio
    (ask accede (say 10 "KS" "KS" 2) (say 11 "X" "X" 2))
    (say 12 "K" "K" 1)
