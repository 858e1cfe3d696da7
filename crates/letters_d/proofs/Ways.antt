-- Each letter's cases are the ways through its tree, by computation.
use mathlib.Core.Path.{◌≡◌, refl}
use mathlib.Core.Option.{none}
use Rattle.rules.specs.CasesDL.{cases_d}
use Rattle.rules.specs.Told.{numbered}
use Rattle.rules.specs.Tree.{ways}
use Rattle.letters_d.specs.Trees.{tree_d}

pub ways_d : ways none tree_d ≡ numbered cases_d
unfolding ways tree_d cases_d
ways_d = refl
