-- `word::is_slavo_germanic` meets its contract. The invariant: what was found, with what the scan from there on finds, is what
-- the scan of the whole word finds.
use Rattle.word.proofs.Mark.{scan_turn, scan_end}
use Rattle.word.proofs.is_slavo_germanic.Goals as goal

pub loop-x-preserved : goal.loop-x-preserved
loop-x-preserved c =
    scan_turn _ _ c.loop-x.last c.loop-x.found c.loop-x-test.true (c.type_inv.w c.loop-x.x-index).fits c.loop-x.invariant

pub returns : goal.returns
returns c = scan_end _ _ c.loop-x.last _ c.loop-x-test.false c.loop-x.invariant
