-- `lines::finish` meets its contract: nothing held is no line, and anything else is the last.
use native.Mathlib.Omega.{arith}
use Rattle.lines.specs.Feed.{hand}
use Rattle.lines.proofs.Read.{finished_none, finished_one}
use Rattle.lines.proofs.finish.Goals as goal

pub returns-then-held-eq0 : goal.returns-then-held-eq0
returns-then-held-eq0 c = finished_none (hand c.args.held c.args.word.now) c.args.out.now c.if-held-eq0.true

pub returns : goal.returns
returns c =
    let a = c.args in
    finished_one (hand a.held a.word.now) a.out.now c.answer.result _ (omega arith) (omega arith) c.if-held-eq0.false c.answer.ensures
