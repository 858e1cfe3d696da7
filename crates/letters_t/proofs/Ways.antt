-- Each letter's cases are the ways through its tree, by computation.
use mathlib.Core.Path.{◌≡◌, refl}
use mathlib.Core.Option.{none}
use Rattle.rules.specs.CasesMZ.{cases_t}
use Rattle.rules.specs.Told.{numbered}
use Rattle.rules.specs.Tree.{ways}
use Rattle.letters_t.specs.Trees.{tree_t}

pub ways_t : ways none tree_t ≡ numbered cases_t
unfolding ways tree_t cases_t
ways_t = refl
