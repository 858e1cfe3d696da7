-- `row_writer::put_rows` meets its contract. The invariant, `Going`, says that the rows written and those still to come from here on are
-- all.
use Rattle.row_writer.specs.Written.{edition_if}
use Rattle.row_writer.proofs.Written.{Going}
use Rattle.row_writer.proofs.put_rows.Given as goal

abbrev pub invariant-loop-k : goal.invariant-loop-k
invariant-loop-k l = Going (edition_if l.second) l.t l.initial.rows l.rows l.visits l.at l.k
