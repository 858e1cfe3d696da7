-- What `explain` promises for every edition, limit, word and room: its answer, and what it leaves in the room. The rows are those of
-- `listing_of` (crates/rows/specs/Listing.antt). proofs/NoChoice.antt shows that nothing is left open.
use Rattle.std.specs.Prelude.{ℕ, ◌/◌, cond, List, ◌≡◌, ltb, length, Ok, Err}
use Rattle.walk.specs.Walk.{filled}
use Rattle.terms.specs.Limits.{Limit}
use Rattle.trimming.specs.Trim.{trimmed}
use Rattle.ascii.specs.High.{first_high}
use Rattle.terms.specs.Limits.{word_limit}
use Rattle.encoder.specs.Encode.{visits_under}
use Rattle.terms.specs.Editions.{is_unknown, edition_of}
use Rattle.row.specs.Numbers.{Row}
use Rattle.rows.specs.Listing.{listing_of, all_numbers}
use Rattle.listing.specs.declared.Unlisted.TheVariants.{TooLong, NotAscii, UnknownEdition, RoomShort}
use Rattle.listing.specs.Numbers.{Told}
use Rattle.listing.specs.Table.{Given}

-- a room of so many numbers holds so many rows; 9 where they are fewer than the visits
abbrev pub in_room : ℕ → ℕ → Told
in_room room visits = cond (ltb (room / 7) visits) (Err RoomShort) (Ok visits)

-- the room behind it: the rows at its front, or what it held
abbrev pub left_in : List Row → List ℕ → List ℕ
left_in rs room = cond (ltb (length room / 7) (length rs)) room (filled (all_numbers rs) room)

-- 7 before 1 before 2, else what the word gives
abbrev pub unless_refused : {A : Type 0} → ℕ → List ℕ → (Told → A) → A → A
unless_refused n w refused given =
    cond (is_unknown n) (refused (Err UnknownEdition))
    (cond (ltb word_limit (length w)) (refused (Err TooLong))
    (cond (ltb (first_high w) (length w)) (refused (Err (NotAscii (first_high w))))
    given))

abbrev pub told_of : ℕ → Limit → List ℕ → ℕ → Told
told_of n l w room = unless_refused n w (λ r. r) (in_room room (visits_under (edition_of n) l (trimmed w)))

abbrev pub room_of : ℕ → Limit → List ℕ → List ℕ → List ℕ
room_of n l w room = unless_refused n w (λ r. room) (left_in (listing_of (edition_of n) l (trimmed w)) room)

pub record Explained (n : ℕ) (l : Limit) (w room : List ℕ) (r : Told) (room' : List ℕ) : Type 0 where
  pub given : Given (is_unknown n) (length w) (first_high w) (length room / 7) (visits_under (edition_of n) l (trimmed w)) r
  pub answer : r ≡ told_of n l w (length room)
  pub rows : room' ≡ room_of n l w room
