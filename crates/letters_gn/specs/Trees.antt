-- For the proofs: the trees of G before N, which follow the code branch by branch.
use Rattle.rules.specs.CasesG.{gn_second, gn_other}
use Rattle.rules.specs.Tree.{Tree, say, ask}

unfoldable pub tree_gn : Tree
tree_gn =
    ask gn_second (say 8 "KN" "N" 1)
    (ask gn_other (say 9 "N" "KN" 1)
    (say 10 "KN" "KN" 1))
