-- For the proofs: the trees of S before C, which follow the code branch by branch.
use Rattle.std.specs.Prelude.{[], ◌∷◌}
use Rattle.rules.specs.Cond.{window, ahead}
use Rattle.rules.specs.CasesS.{SCH, school, schenker, first_sch}
use Rattle.rules.specs.Tree.{Tree, say, ask}

unfoldable pub tree_sch : Tree
tree_sch =
    ask school
    (ask schenker (say 9 "X" "SK" 2) (say 10 "SK" "SK" 2))
    (ask first_sch (say 11 "X" "S" 2)
    (say 12 "X" "X" 2))

unfoldable pub tree_sc : Tree
tree_sc =
    ask SCH tree_sch
    (ask (window (ahead 2) 1 ("I" ∷ "E" ∷ "Y" ∷ [])) (say 13 "S" "S" 2)
    (say 14 "SK" "SK" 2))
