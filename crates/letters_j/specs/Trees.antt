-- For the proofs: the tree of J, which follows the code branch by branch. proofs/Ways.antt shows that its ways are the cases of the
-- definition.
use Rattle.rules.specs.CasesDL.{spanish, spanish_h}
use Rattle.rules.specs.Tree.{Tree, say, ask}
use Rattle.letters_j_other.specs.Trees.{tree_j_other}

unfoldable pub tree_j : Tree
tree_j =
    ask spanish
    (ask spanish_h (say 1 "H" "H" 0) (say 2 "J" "H" 0))
    tree_j_other
