-- What laying bytes into lent room answers and leaves there.
use Rattle.std.specs.Prelude.{ℕ, ◌+◌, ◌≡◌, cond, List, ltb, length, Option, Some, None, Result, Ok, Err}
use Rattle.std.proofs.lemmas.List.Edits.{sets}
use Rattle.terms.specs.declared.Fault.{Fault}
use Rattle.terms.specs.declared.Fault.TheVariants.{NoRoom}

-- the length of the book that was made, or the fault
abbrev pub Made : Type 0
Made = Result ℕ Fault

-- a number that was made, unless something is at fault
abbrev pub unless : Option Fault → ℕ → Result ℕ Fault
unless None n = Ok n
unless (Some f) n = Err f

-- ---- bytes that are laid into lent room at a place, unless something is at fault before: the room is tested last
abbrev pub placed : Option Fault → ℕ → ℕ → List ℕ → Made
placed (Some f) room at bytes = Err f
placed None room at bytes = cond (ltb room (at + length bytes)) (Err NoRoom) (Ok (at + length bytes))

-- a refusal changes nothing
abbrev pub left : Made → List ℕ → ℕ → List ℕ → List ℕ
left (Ok n) room at bytes = sets room at bytes
left (Err f) room at bytes = room

pub record Placed (fault : Option Fault) (room : List ℕ) (at : ℕ) (bytes : List ℕ) (r : Made) (room' : List ℕ) : Type 0 where
  pub answer : r ≡ placed fault (length room) at bytes
  pub leaves : room' ≡ left (placed fault (length room) at bytes) room at bytes
