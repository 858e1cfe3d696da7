-- A record whose codes are made, behind a book: its faults, and the least station that it may have.
use Rattle.std.specs.Prelude.{ℕ, ◌^◌, Bool, cond, ltb, eqb, Option, Some, None}
use Rattle.terms.specs.declared.Fault.{Fault}
use Rattle.terms.specs.declared.Fault.TheVariants.{BadNumber, NotAbove}

-- the least station that the new record may have. Where it does not fit behind the end, closed records of a format 2 book may give their
-- room back: whether its station rises is then for an addition to say that knows them, and `NoRoom` sends the caller there
abbrev pub floor_where : Bool → ℕ → ℕ → ℕ
floor_where fits format floor = cond fits floor (cond (eqb format 1) floor 0)

-- the faults of a station
abbrev pub station_fault : ℕ → ℕ → Option Fault
station_fault floor station = cond (ltb station (2 ^ 28)) (cond (ltb station floor) (Some NotAbove) None) (Some BadNumber)
