-- What closing up makes of the records in a part of a room.
use Rattle.std.specs.Prelude.{ℕ, List, [], take, drop}
use Rattle.fields.specs.Got.{Got, good, bad}
use Rattle.entry.specs.Entry.{Entry}
use Rattle.book.specs.Book.{read_entries, live_bytes}

-- the bytes from `from` to `len` read as records, and the bytes of the live ones
abbrev pub entries_in : ℕ → List ℕ → ℕ → ℕ → Got (List Entry)
entries_in format room len from = read_entries format 0 (drop from (take len room))

abbrev pub live_of : ℕ → Got (List Entry) → List ℕ
live_of format (good es n) = live_bytes format es
live_of format (bad f) = []
