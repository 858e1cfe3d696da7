-- `letters_gn::is_gn_other` meets its contract: its expression is the condition but for the Y test, which never matters
-- before N.
use mathlib.Core.Path.{sym, ap, ◌∙◌}
use mathlib.Core.Bool.{Bool, not, ◌&&◌}
use Rattle.byte.specs.Text.{upper}
use Rattle.rules.specs.Cond.{holds, marked}
use Rattle.rules.proofs.Idle.{gn_other_lem}
use Rattle.letters_gn.proofs.is_gn_other.Goals as goal

pub returns : goal.returns
unfolding holds
returns c =
    ap (λ (b : Bool). not b && not c.args.slavo) c.ahead.ensures
    ∙ sym (gn_other_lem (upper c.args.w.now) c.args.at (marked c.args.slavo) c.requires)
