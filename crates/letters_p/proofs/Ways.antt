-- Each letter's cases are the ways through its tree, by computation.
use mathlib.Core.Path.{◌≡◌, refl}
use mathlib.Core.Option.{none}
use Rattle.rules.specs.CasesMZ.{cases_p}
use Rattle.rules.specs.Told.{numbered}
use Rattle.rules.specs.Tree.{ways}
use Rattle.letters_p.specs.Trees.{tree_p}

pub ways_p : ways none tree_p ≡ numbered cases_p
unfolding ways tree_p cases_p
ways_p = refl
