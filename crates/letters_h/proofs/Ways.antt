-- Each letter's cases are the ways through its tree, by computation.
use mathlib.Core.Path.{◌≡◌, refl}
use mathlib.Core.Option.{none}
use Rattle.rules.specs.CasesDL.{cases_h}
use Rattle.rules.specs.Told.{numbered}
use Rattle.rules.specs.Tree.{ways}
use Rattle.letters_h.specs.Trees.{tree_h}

pub ways_h : ways none tree_h ≡ numbered cases_h
unfolding ways tree_h cases_h
ways_h = refl
