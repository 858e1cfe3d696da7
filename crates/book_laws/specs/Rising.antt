-- "Station numbers rise strictly": each is below every later one. proofs/Rising.antt shows it of every book that reads.
use Rattle.std.specs.Prelude.{ℕ, ◌<◌, List, [], ◌∷◌, length, get_or}
use Rattle.entry.specs.Entry.{Entry}

-- of live and closed records
abbrev pub stations : List Entry → List ℕ
stations [] = []
stations (e ∷ es) = e.body.station ∷ stations es

abbrev pub Rising : List ℕ → Type 0
Rising l = (i j : ℕ) → i < j → j < length l → get_or l i 0 < get_or l j 0
