-- `trimming::back` meets its contract: from the place on all are blanks, and before it none is.
use Rattle.std.proofs.Common.{rules}
use Rattle.trimming.proofs.Trim.{to_last}
use Rattle.trimming.proofs.back.Goals as goal

pub returns-clause-end : goal.returns-clause-end
returns-clause-end c = to_last c.args.w.now c.map_or.result (search rules) (λ k l. search rules) (λ k l m. search rules)
