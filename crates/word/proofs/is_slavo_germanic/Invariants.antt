-- `word::is_slavo_germanic` meets its contract. The invariant: what was found, with what the scan from there on finds, is what
-- the scan of the whole word finds.
use Rattle.word.proofs.Mark.{Found}
use Rattle.word.proofs.is_slavo_germanic.Given as goal

abbrev pub invariant-loop-x : goal.invariant-loop-x
invariant-loop-x l = Found l.w l.x-index l.last l.found
