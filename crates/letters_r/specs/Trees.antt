-- For the proofs: the trees of R, which follow the code branch by branch. proofs/Ways.antt shows that their ways are the
-- cases of the definition.
use Rattle.rules.specs.Plain.{next}
use Rattle.rules.specs.CasesMZ.{rogier}
use Rattle.rules.specs.Tree.{Tree, ask, over}

unfoldable pub tree_r : Tree
tree_r = ask rogier (over 1 (next "R") "" "R") (over 3 (next "R") "R" "R")
