-- For the proofs: the trees of G that may be soft, which follow the code branch by branch.
use Rattle.std.specs.Prelude.{[], ◌∷◌}
use Rattle.rules.specs.Cond.{window, ahead}
use Rattle.rules.specs.Plain.{next}
use Rattle.rules.specs.CasesG.{biaggi, germanic}
use Rattle.rules.specs.Tree.{Tree, say, ask}

unfoldable pub tree_ggi : Tree
tree_ggi =
    ask germanic (say 13 "K" "K" 1)
    (ask (window (ahead 1) 3 ("IER" ∷ [])) (say 14 "J" "J" 1)
    (say 15 "J" "K" 1))

unfoldable pub tree_g_last : Tree
tree_g_last =
    ask biaggi tree_ggi
    (ask (next "G") (say 16 "K" "K" 1)
    (say 17 "K" "K" 0))
