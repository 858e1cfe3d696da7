-- Each letter's cases are the ways through its tree, by computation.
use mathlib.Core.Path.{◌≡◌, refl}
use mathlib.Core.Option.{none}
use Rattle.rules.specs.CasesMZ.{cases_x}
use Rattle.rules.specs.Told.{numbered}
use Rattle.rules.specs.Tree.{ways}
use Rattle.letters_x.specs.Trees.{tree_x_later, tree_x}

pub ways_x : ways none tree_x ≡ numbered cases_x
unfolding ways tree_x tree_x_later cases_x
ways_x = refl
