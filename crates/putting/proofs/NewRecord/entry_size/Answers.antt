-- `putting::NewRecord::entry_size` meets its contract.
use mathlib.Core.Path.{sym, ap, ◌∙◌}
use native.Mathlib.Omega.{arith}
use lib.ListN.{length}
use Rattle.putting.proofs.Laid.{entry_bare, one_more, record_small}
use Rattle.putting.proofs.NewRecord.entry_size.Goals as goal

pub returns-then-format-eq1 : goal.returns-then-format-eq1
returns-then-format-eq1 c = c.record_size-size.ensures ∙ ap length (sym (entry_bare c.args.format c.args.self c.if-format-eq1.true))

pub overflow_add-result : goal.overflow_add-result
overflow_add-result c = omega (arith, c.record_size-size.ensures, record_small c.args.self c.requires)

pub returns : goal.returns
returns c = omega (arith, c.record_size-size.ensures, one_more c.args.format c.args.self c.if-format-eq1.false)
