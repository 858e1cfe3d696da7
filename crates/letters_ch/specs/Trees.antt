-- For the proofs: the trees of C before H, which follow the code branch by branch.
use Rattle.std.specs.Prelude.{[], ◌∷◌}
use Rattle.rules.specs.Cond.{window, past, ◌or◌, front}
use Rattle.rules.specs.CasesC.{condition_c0, CH, chae, condition_ch0, condition_ch1}
use Rattle.rules.specs.Tree.{Tree, say, ask}

unfoldable pub tree_ch : Tree
tree_ch =
    ask chae (say 3 "K" "X" 1)
    (ask (condition_ch0 or condition_ch1) (say 4 "K" "K" 1)
    (ask (past 0)
    (ask (window (front 0) 2 ("MC" ∷ [])) (say 5 "K" "K" 1) (say 6 "X" "K" 1))
    (say 7 "X" "X" 1)))

-- what is left of it before H, and before another byte that some case asks for
unfoldable pub tree_c_before_h : Tree
tree_c_before_h = ask condition_c0 (say 1 "K" "K" 1) (ask CH tree_ch (say 18 "K" "K" 0))
