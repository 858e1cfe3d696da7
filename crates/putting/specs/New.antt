-- A new record, as it is lent: what a book holds of it, and what is asked of it.
use Rattle.std.specs.Prelude.{ℕ, ◌^◌, ◌≤◌, ◌<◌, List, length}
use Rattle.terms.specs.Limits.{word_limit, code_room}
use Rattle.entry.specs.Entry.{Record, Entry}
use Rattle.putting.specs.declared.NewRecord.{NewRecord}

abbrev pub record_with : ℕ → List ℕ → List ℕ → List ℕ → Record
record_with station name primary alternate = record { station = station; name = name; primary = primary; alternate = alternate }

-- a new record is live
abbrev pub entry_with : ℕ → List ℕ → List ℕ → List ℕ → Entry
entry_with station name primary alternate = record { kind = 1; body = record_with station name primary alternate }

abbrev pub new_record : NewRecord → Record
new_record v = record_with v.station v.name.now v.primary.now v.alternate.now

abbrev pub new_entry : NewRecord → Entry
new_entry v = entry_with v.station v.name.now v.primary.now v.alternate.now

-- four groups hold its numbers
pub record Writable (v : NewRecord) : Type 0 where
  pub station : v.station < 2 ^ 28
  pub name : length v.name.now < 2 ^ 28
  pub primary : length v.primary.now < 2 ^ 28
  pub alternate : length v.alternate.now < 2 ^ 28

-- a name that the encoder takes, and codes that have room where any code has
pub record Short (v : NewRecord) : Type 0 where
  pub name : length v.name.now ≤ word_limit
  pub primary : length v.primary.now ≤ code_room
  pub alternate : length v.alternate.now ≤ code_room
