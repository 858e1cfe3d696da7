-- `keys::drain` ends, since with room for a line each feed passes a byte.
use Rattle.std.proofs.Common.{arith, length-drop}
use Rattle.lines.proofs.Read.{feed_moves}
use Rattle.keys.proofs.drain.Goals as goal

pub loop-rest-smaller : goal.loop-rest-smaller
loop-rest-smaller c =
    let m = feed_moves c.feed-fed.ensures (omega (arith, c.requires, c.loop-rest.auto.out)) (grind (arith, c.loop-rest-test.ensures, c.is_empty.ensures)) in
    let d = length-drop c.feed-fed.result.used c.loop-rest.rest.now in
    omega (arith, d, m, c.feed-fed.ensures.within)
