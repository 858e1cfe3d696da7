-- For the proofs: the trees of M, which follow the code branch by branch. proofs/Ways.antt shows that their ways are the
-- cases of the definition.
use Rattle.rules.specs.CasesMZ.{condition_m0}
use Rattle.rules.specs.Tree.{Tree, over}

unfoldable pub tree_m : Tree
tree_m = over 1 condition_m0 "M" "M"
