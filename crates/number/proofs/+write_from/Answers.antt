-- `number::write_from` meets its contract, by the number of groups that are left.
use mathlib.Core.Path.{◌∙◌}
use native.Mathlib.Numerals.{add-one}
use Rattle.number.proofs.Laws.{low_small, high, groups_last, groups_more}
use Rattle.number.proofs.+write_from.Goals as goal

pub returns-then-x-lt128 : goal.returns-then-x-lt128
returns-then-x-lt128 t c =
    simp (groups_last c.args.left c.args.x c.if-left-eq0.false c.if-x-lt128.true, low_small c.args.x c.if-x-lt128.true)

pub returns : goal.returns
returns t c =
    c.write_from.ensures ∙ simp (groups_more c.args.left c.args.x c.if-left-eq0.false c.if-x-lt128.false, high c.args.x, add-one)
