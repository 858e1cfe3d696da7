-- For the proofs: the trees of P, which follow the code branch by branch. proofs/Ways.antt shows that their ways are the
-- cases of the definition.
use Rattle.std.specs.Prelude.{[], ◌∷◌}
use Rattle.rules.specs.Cond.{window, ahead}
use Rattle.rules.specs.Plain.{next}
use Rattle.rules.specs.Tree.{Tree, say, ask, over}

unfoldable pub tree_p : Tree
tree_p =
    ask (next "H") (say 1 "F" "F" 1)
    (over 2 (window (ahead 1) 1 ("P" ∷ "B" ∷ [])) "P" "P")
