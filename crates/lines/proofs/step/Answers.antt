-- `lines::step` meets its contract: byte 10 stores the line of what is held, and any other byte is held.
use Rattle.lines.specs.Feed.{hand}
use Rattle.lines.proofs.Read.{stepped_end, stepped_in}
use Rattle.lines.proofs.step.Goals as goal

pub returns-then-b-eq10 : goal.returns-then-b-eq10
returns-then-b-eq10 c =
    let a = c.args in
    stepped_end a.b (hand a.held a.word.now) a.out.now a.wrote c.answer-n.result _
    c.if-b-eq10.true c.answer-n.ensures

pub returns : goal.returns
returns c =
    let a = c.args in
    stepped_in a.b (hand a.held a.word.now) a.out.now a.wrote c.hold-n.result _
    c.if-b-eq10.false c.hold-n.ensures
