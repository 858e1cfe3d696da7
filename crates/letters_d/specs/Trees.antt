-- For the proofs: the trees of D, which follow the code branch by branch. proofs/Ways.antt shows that their ways are the
-- cases of the definition.
use Rattle.std.specs.Prelude.{[], ◌∷◌}
use Rattle.rules.specs.Cond.{window, ahead}
use Rattle.rules.specs.CasesDL.{DG}
use Rattle.rules.specs.Tree.{Tree, say, ask}

unfoldable pub tree_d : Tree
tree_d =
    ask DG
    (ask (window (ahead 2) 1 ("I" ∷ "E" ∷ "Y" ∷ [])) (say 1 "J" "J" 2) (say 2 "TK" "TK" 1))
    (ask (window (ahead 0) 2 ("DT" ∷ "DD" ∷ [])) (say 3 "T" "T" 1)
    (say 4 "T" "T" 0))
