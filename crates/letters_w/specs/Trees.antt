-- For the proofs: the trees of W, which follow the code branch by branch. proofs/Ways.antt shows that their ways are the
-- cases of the definition.
use Rattle.std.specs.Prelude.{[], ◌∷◌}
use Rattle.rules.specs.Cond.{window, vowel, ahead}
use Rattle.rules.specs.CasesMZ.{first_w, arnow}
use Rattle.rules.specs.Tree.{Tree, say, ask}

unfoldable pub tree_first_w : Tree
tree_first_w = ask (vowel (ahead 1)) (say 2 "A" "F" 0) (say 3 "A" "A" 0)

unfoldable pub tree_w : Tree
tree_w =
    ask (window (ahead 0) 2 ("WR" ∷ [])) (say 1 "R" "R" 1)
    (ask first_w tree_first_w
    (ask arnow (say 4 "" "F" 0)
    (ask (window (ahead 0) 4 ("WICZ" ∷ "WITZ" ∷ [])) (say 5 "TS" "FX" 3)
    (say 6 "" "" 0))))
