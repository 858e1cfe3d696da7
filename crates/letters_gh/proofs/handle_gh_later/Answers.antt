-- `letters_gh::handle_gh_later` meets its contract: at each return the tests on the way lead the tree there.
use Rattle.rules.specs.Cond.{holds}
use Rattle.rules.specs.Told.{text_of}
use Rattle.rules.proofs.Tree.{said, says, texts, tells}
use Rattle.letters_gh.specs.Trees.{tree_gh_later}
use Rattle.letters_gh.proofs.handle_gh_later.Goals as goal

pub returns-then-text-ne0 : goal.returns-then-text-ne0
unfolding holds text_of tree_gh_later
returns-then-text-ne0 c = said (search (says, texts, tells) depth 14)

pub returns-then-is_laugh : goal.returns-then-is_laugh
unfolding holds text_of tree_gh_later
returns-then-is_laugh c = said (search (says, texts, tells) depth 14)

pub returns-then-is_after_other : goal.returns-then-is_after_other
unfolding holds text_of tree_gh_later
returns-then-is_after_other c = said (search (says, tells) depth 14)

pub returns-else-is_after_other : goal.returns-else-is_after_other
unfolding holds text_of tree_gh_later
returns-else-is_after_other c = said (search (says, tells) depth 14)
