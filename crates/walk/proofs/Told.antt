-- The walk is told the edition as a test: the edition of a test, which is the one that was asked for.
use mathlib.Core.Path.{◌≡◌, refl, ap, ◌∙◌}
use mathlib.Core.Bool.{Bool, true, false}
use Rattle.terms.specs.Editions.{is_second}
use Rattle.terms.specs.declared.Edition.{Edition}
use Rattle.terms.specs.declared.Edition.TheVariants.{E1, E2}

abbrev pub edition_if : Bool → Edition
edition_if true = E2
edition_if false = E1

pub told : (b : Bool) → is_second (edition_if b) ≡ b
told true = refl
told false = refl

told_back : (e : Edition) → edition_if (is_second e) ≡ e
told_back E1 = refl
told_back E2 = refl

-- it is the edition that was asked for
pub is_asked : (b : Bool) (e : Edition) → b ≡ is_second e → edition_if b ≡ e
is_asked b e h = ap edition_if h ∙ told_back e
