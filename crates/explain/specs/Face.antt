-- The listing's answer as a host's numbers: 0 or the refusal's number, the place, how many rows.
use Rattle.std.specs.Prelude.{ℕ, List, [], ◌∷◌}
use Rattle.listing.specs.Numbers.{Told, number_of, place_of, rows_of}

abbrev pub told_numbers : Told → List ℕ
told_numbers r = number_of r ∷ place_of r ∷ rows_of r ∷ []
