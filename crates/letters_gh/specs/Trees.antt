-- For the proofs: the trees of G before H, which follow the code branch by branch.
use Rattle.rules.specs.Cond.{byte, place, ahead}
use Rattle.rules.specs.CasesG.{after_consonant, parker, laugh, after_other}
use Rattle.rules.specs.Tree.{Tree, say, ask}

unfoldable pub tree_gh_later : Tree
tree_gh_later =
    ask parker (say 4 "" "" 1)
    (ask laugh (say 5 "F" "F" 1)
    (ask after_other (say 6 "K" "K" 1)
    (say 7 "" "" 1)))

unfoldable pub tree_gh : Tree
tree_gh =
    ask after_consonant (say 1 "K" "K" 1)
    (ask (place 0)
    (ask (byte (ahead 2) "I") (say 2 "J" "J" 1) (say 3 "K" "K" 1))
    tree_gh_later)
