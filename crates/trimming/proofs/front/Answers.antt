-- `trimming::front` meets its contract: before the place all are blanks, and at it none is.
use Rattle.std.proofs.Common.{rules}
use Rattle.trimming.proofs.Trim.{from_first}
use Rattle.trimming.proofs.front.Goals as goal

pub returns-clause-start : goal.returns-clause-start
returns-clause-start c = from_first c.args.w.now c.unwrap_or.result (search rules) (λ l. search rules) (λ k l. search rules)
