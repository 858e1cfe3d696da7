-- For the proofs: the trees of Z, which follow the code branch by branch. proofs/Ways.antt shows that their ways are the
-- cases of the definition.
use Rattle.rules.specs.Plain.{next}
use Rattle.rules.specs.CasesMZ.{zo_zi_za}
use Rattle.rules.specs.Tree.{Tree, say, ask, over}

unfoldable pub tree_z_other : Tree
tree_z_other = ask zo_zi_za (over 2 (next "Z") "S" "TS") (over 4 (next "Z") "S" "S")

unfoldable pub tree_z : Tree
tree_z = ask (next "H") (say 1 "J" "J" 1) tree_z_other
