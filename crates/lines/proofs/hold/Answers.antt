-- `lines::hold` meets its contract, which says what it stores on either side of the limit.
use Rattle.lines.proofs.Hand.{keep_short, keep_long}
use Rattle.lines.proofs.hold.Goals as goal

pub returns-then-held-lt-WORD_LIMIT : goal.returns-then-held-lt-WORD_LIMIT
returns-then-held-lt-WORD_LIMIT c = keep_short c.args.b c.args.held c.args.word.now c.if-held-lt-WORD_LIMIT.true

pub returns : goal.returns
returns c = keep_long c.args.b c.args.held c.args.word.now c.if-held-lt-WORD_LIMIT.false
