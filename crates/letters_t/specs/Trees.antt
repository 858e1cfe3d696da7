-- For the proofs: the trees of T, which follow the code branch by branch. proofs/Ways.antt shows that their ways are the
-- cases of the definition.
use Rattle.std.specs.Prelude.{[], ◌∷◌}
use Rattle.rules.specs.Cond.{window, ahead}
use Rattle.rules.specs.CasesMZ.{TION, Th, thomas}
use Rattle.rules.specs.Tree.{Tree, say, ask, over}

unfoldable pub tree_t : Tree
tree_t =
    ask TION (say 1 "X" "X" 2)
    (ask Th
    (ask thomas (say 2 "T" "T" 1) (say 3 "0" "T" 1))
    (over 4 (window (ahead 1) 1 ("T" ∷ "D" ∷ [])) "T" "T"))
