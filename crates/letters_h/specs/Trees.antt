-- For the proofs: the trees of H, which follow the code branch by branch. proofs/Ways.antt shows that their ways are the
-- cases of the definition.
use Rattle.rules.specs.CasesDL.{before_vowel}
use Rattle.rules.specs.Tree.{Tree, say, ask}

unfoldable pub tree_h : Tree
tree_h = ask before_vowel (say 1 "H" "H" 1) (say 2 "" "" 0)
