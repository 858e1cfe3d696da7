-- `listing::list` meets its contract: where the rows do not all fit the room is as it was, else they are written.
use Rattle.row_writer.specs.Written.{edition_if}
use Rattle.listing.proofs.Answers.{short, enough}
use Rattle.listing.proofs.list.Goals as goal

pub returns-then-rows-visits-clause-content : goal.returns-then-rows-visits-clause-content
returns-then-rows-visits-clause-content c =
    (short (edition_if c.args.second) c.args.visits c.args.t.now c.args.rows.now c.requires.1 c.if-rows-visits.true).1

pub returns-clause-content : goal.returns-clause-content
returns-clause-content c =
    (enough (edition_if c.args.second) c.args.visits c.args.t.now c.args.rows.now c.requires.1 c.if-rows-visits.false c.put_rows.ensures).1
