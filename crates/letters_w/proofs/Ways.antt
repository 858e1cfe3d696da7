-- Each letter's cases are the ways through its tree, by computation.
use mathlib.Core.Path.{◌≡◌, refl}
use mathlib.Core.Option.{none}
use Rattle.rules.specs.CasesMZ.{cases_w}
use Rattle.rules.specs.Told.{numbered}
use Rattle.rules.specs.Tree.{ways}
use Rattle.letters_w.specs.Trees.{tree_first_w, tree_w}

pub ways_w : ways none tree_w ≡ numbered cases_w
unfolding ways tree_w tree_first_w cases_w
ways_w = refl
