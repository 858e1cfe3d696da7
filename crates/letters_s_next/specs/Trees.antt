-- For the proofs: the trees of S that is not silent, and before no H, IO or IA; they follow the code branch by branch.
use Rattle.std.specs.Prelude.{[], ◌∷◌}
use Rattle.rules.specs.Cond.{window, ahead}
use Rattle.rules.specs.CasesS.{smith, SC, artois, next_sz}
use Rattle.rules.specs.Tree.{Tree, ask, over}
use Rattle.letters_sc.specs.Trees.{tree_sc}

unfoldable pub tree_s_last : Tree
tree_s_last = ask artois (over 15 next_sz "" "S") (over 17 next_sz "S" "S")

unfoldable pub tree_s_next : Tree
tree_s_next =
    ask smith (over 7 (window (ahead 1) 1 ("Z" ∷ [])) "S" "X")
    (ask SC tree_sc
    tree_s_last)
