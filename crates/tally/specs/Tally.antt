-- What a visit makes of the running tally, two lengths and a visit count: each code takes the visit's addition, clipped to the
-- limit, and the visit counts once.
use Rattle.std.specs.Prelude.{ℕ, ◌+◌, ◌-◌, length, take}
use Rattle.outcome.specs.declared.Add.{Add}
use Rattle.outcome.specs.declared.Visit.{Visit}
use Rattle.rules.specs.Kept.{bytes_of}
use Rattle.tally.specs.declared.Tally.{Tally}

-- the length of a code after an addition: one that finds too little room under the limit adds its first bytes
abbrev pub longer : ℕ → ℕ → Add → ℕ
longer limit len add = len + length (take (limit - len) (bytes_of add))

-- the tally after a visit
abbrev pub counted : Tally → ℕ → Visit → Tally
counted t limit v =
    record {
      primary = longer limit t.primary v.primary;
      alternate = longer limit t.alternate v.alternate;
      visits = t.visits + 1;
    }
