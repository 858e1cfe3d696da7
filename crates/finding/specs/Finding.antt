-- The live record of a station, and where its kind stands.
use Rattle.std.specs.Prelude.{ℕ, ◌+◌, ◌<◌, ◌≡◌, Bool, cond, ◌&&◌, List, [], ◌∷◌, eqb, length, drop, Result, Ok, Err}
use Rattle.terms.specs.declared.Fault.{Fault}
use Rattle.terms.specs.declared.Fault.TheVariants.{NoLive}
use Rattle.fields.specs.Got.{Got, good, bad}
use Rattle.entry.specs.Entry.{Entry, entry_bytes, is_live}
use Rattle.book.specs.Book.{Book, read_entries}
use Rattle.header.specs.Head.{header_bytes}

-- it is the live one of the station
abbrev pub meant : ℕ → Entry → Bool
meant station e = is_live e && eqb e.body.station station

-- where its kind stands, from the place where the records begin; `NoLive` for none
abbrev pub place_of : ℕ → ℕ → ℕ → List Entry → Got ℕ
place_of format station at [] = bad NoLive
place_of format station at (e ∷ es) = cond (meant station e) (good at 1) (place_of format station (at + length (entry_bytes format e)) es)

abbrev pub kind_place : ℕ → Got Book → Got ℕ
kind_place station (good b n) = place_of b.header.format station (length (header_bytes b.header)) b.records
kind_place station (bad f) = bad f

-- ---- the place that is found
abbrev pub Place : Type 0
Place = Result ℕ Fault

abbrev pub place_told : Got ℕ → Place
place_told (good p n) = Ok p
place_told (bad f) = Err f

abbrev pub sought_by : ℕ → ℕ → ℕ → Got (List Entry) → Got ℕ
sought_by format station at (good es n) = place_of format station at es
sought_by format station at (bad f) = bad f

pub record Sought (s : List ℕ) (format station from : ℕ) (r : Place) : Type 0 where
  pub answer : r ≡ place_told (sought_by format station from (read_entries format 0 (drop from s)))
  pub inside : (p : ℕ) → r ≡ Ok p → p < length s
