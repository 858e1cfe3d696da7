-- Each letter's cases are the ways through its tree, by computation.
use mathlib.Core.Path.{◌≡◌, refl}
use mathlib.Core.Option.{none}
use Rattle.rules.specs.CasesDL.{cases_l}
use Rattle.rules.specs.Told.{numbered}
use Rattle.rules.specs.Tree.{ways}
use Rattle.letters_l.specs.Trees.{tree_l}

pub ways_l : ways none tree_l ≡ numbered cases_l
unfolding ways tree_l cases_l
ways_l = refl
