-- Each letter's cases are the ways through its tree, by computation.
use mathlib.Core.Path.{◌≡◌, refl}
use mathlib.Core.Option.{none}
use Rattle.rules.specs.CasesMZ.{cases_z}
use Rattle.rules.specs.Told.{numbered}
use Rattle.rules.specs.Tree.{ways}
use Rattle.letters_z.specs.Trees.{tree_z_other, tree_z}

pub ways_z : ways none tree_z ≡ numbered cases_z
unfolding ways tree_z tree_z_other cases_z
ways_z = refl
