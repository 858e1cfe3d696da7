-- Each letter's cases are the ways through its tree, by computation.
use mathlib.Core.Path.{◌≡◌, refl}
use mathlib.Core.Option.{none}
use Rattle.rules.specs.CasesDL.{cases_j}
use Rattle.rules.specs.Told.{numbered}
use Rattle.rules.specs.Tree.{ways}
use Rattle.letters_j_other.specs.Trees.{tree_j_other}
use Rattle.letters_j.specs.Trees.{tree_j}

pub ways_j : ways none tree_j ≡ numbered cases_j
unfolding ways tree_j tree_j_other cases_j
ways_j = refl
