-- Each letter's cases are the ways through its tree, by computation.
use mathlib.Core.Path.{◌≡◌, refl}
use mathlib.Core.Option.{none}
use Rattle.rules.specs.CasesMZ.{cases_r}
use Rattle.rules.specs.Told.{numbered}
use Rattle.rules.specs.Tree.{ways}
use Rattle.letters_r.specs.Trees.{tree_r}

pub ways_r : ways none tree_r ≡ numbered cases_r
unfolding ways tree_r cases_r
ways_r = refl
