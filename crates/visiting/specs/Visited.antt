-- A visit, and the tally that took it in.
use Rattle.std.specs.Prelude.{ℕ}
use Rattle.outcome.specs.declared.Visit.{Visit}
use Rattle.tally.specs.declared.Tally.{Tally}
use Rattle.tally.specs.Tally.{counted}
use Rattle.visiting.specs.declared.Visited.{Visited}

abbrev pub visited : Tally → ℕ → Visit → Visited
visited t limit v = record { tally = counted t limit v; visit = v }
