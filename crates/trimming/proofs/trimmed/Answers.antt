-- `trimming::trimmed` meets its contract, since its two ends enclose the trimmed word.
use Rattle.trimming.proofs.Trim.{inner}
use Rattle.trimming.proofs.trimmed.Goals as goal

pub returns : goal.returns
returns c =
    let f = c.front-start in
    let b = c.back-len in
    (inner c.args.word.now f.result b.result f.ensures.start b.ensures.within b.ensures.end).same
