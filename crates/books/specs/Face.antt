-- A host's numbers as a cursor.
use Rattle.std.specs.Prelude.{ℕ}
use Rattle.header.specs.declared.Cursor.{Cursor}

abbrev pub cursor_of : ℕ → ℕ → Cursor
cursor_of place floor = record { at = place; floor = floor }
