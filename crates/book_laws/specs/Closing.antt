-- Whether a station has a live record. proofs/Closing.antt shows that a close is refused with 11 exactly where it has none.
use Rattle.std.specs.Prelude.{ℕ, Bool, false, ◌||◌, List, [], ◌∷◌}
use Rattle.entry.specs.Entry.{Entry}
use Rattle.finding.specs.Finding.{meant}

abbrev pub has_live : ℕ → List Entry → Bool
has_live station [] = false
has_live station (e ∷ es) = meant station e || has_live station es
