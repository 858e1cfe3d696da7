-- For the proofs: the trees of X, which follow the code branch by branch. proofs/Ways.antt shows that their ways are the
-- cases of the definition.
use Rattle.rules.specs.Cond.{place, non}
use Rattle.rules.specs.CasesMZ.{breaux, next_cx}
use Rattle.rules.specs.Tree.{Tree, say, ask, over}

unfoldable pub tree_x_later : Tree
tree_x_later = ask (non breaux) (over 2 next_cx "KS" "KS") (over 4 next_cx "" "")

unfoldable pub tree_x : Tree
tree_x = ask (place 0) (say 1 "S" "S" 0) tree_x_later
