-- `book::records_from` meets its contract. The invariant: what is left makes the whole answer; a record takes a byte at least.
use Prim.Native.Nat.{◌≤◌, ◌-◌}
use mathlib.Core.Path.{◌≡◌}
use lib.ListN.{length, drop}
use Rattle.book.specs.Book.{read_entries}
use Rattle.book.specs.Told.{surveyed, unmeasured}
use Rattle.book.proofs.records_from.Given as goal

abbrev pub invariant-loop-c : goal.invariant-loop-c
invariant-loop-c l =
    (l.all.count ≤ l.c.at) × (l.all.live ≤ l.c.at) × (l.all.size ≤ l.c.at) × (l.all.floor ≡ l.c.floor)
    × (surveyed l.format l.all (read_entries l.format l.c.floor (drop l.c.at l.s)) ≡ surveyed l.format unmeasured (read_entries l.format 0 (drop l.from l.s)))

abbrev pub decreases-loop-c : goal.decreases-loop-c
decreases-loop-c l = length l.s - l.c.at
