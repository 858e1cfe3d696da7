-- `word::start_of` meets its contract: its test is the one of the definition.
use mathlib.Core.Path.{ap, ◌∙◌}
use mathlib.Core.Bool.{Bool, cond}
use Rattle.word.specs.Start.{start_of}
use Rattle.word.proofs.start_of.Goals as goal

pub returns : goal.returns
unfolding start_of
returns c = c.one_if.ensures ∙ ap (λ (q : Bool). cond q 1 0) c.front.ensures
