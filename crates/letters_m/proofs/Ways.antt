-- Each letter's cases are the ways through its tree, by computation.
use mathlib.Core.Path.{◌≡◌, refl}
use mathlib.Core.Option.{none}
use Rattle.rules.specs.CasesMZ.{cases_m}
use Rattle.rules.specs.Told.{numbered}
use Rattle.rules.specs.Tree.{ways}
use Rattle.letters_m.specs.Trees.{tree_m}

pub ways_m : ways none tree_m ≡ numbered cases_m
unfolding ways tree_m cases_m
ways_m = refl
