-- A host's numbers as a limit and a choice.
use Rattle.std.specs.Prelude.{ℕ, Bool, true, false}
use Rattle.terms.specs.Limits.{Limit}
use Rattle.chosen.specs.declared.Choice.{Choice}
use Rattle.chosen.specs.declared.Choice.TheVariants.{Primary, Alternate}
use Rattle.std.specs.Prelude.{Some, None}

-- a host's limit, which counts where there is one
abbrev pub limit_of : Bool → ℕ → Limit
limit_of true n = Some n
limit_of false n = None

abbrev pub choice_of : Bool → Choice
choice_of true = Alternate
choice_of false = Primary
