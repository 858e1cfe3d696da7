-- The chosen code, after document 01's "hand back the chosen code as a part of the buffer it lies in. If the stated length
-- exceeds that buffer, the part is empty." crates/demands/proofs/Part.antt shows that after an accepted call the part is the word's code.
use Rattle.std.specs.Prelude.{ℕ, List, [], cond, leb, length, take}
use Rattle.chosen.specs.declared.Choice.{Choice}
use Rattle.chosen.specs.declared.Choice.TheVariants.{Primary, Alternate}

-- the first n bytes of a buffer, and none where it has fewer
abbrev pub front_of : ℕ → List ℕ → List ℕ
front_of n buf = cond (leb n (length buf)) (take n buf) []

-- of a primary buffer p with a code of np bytes and an alternate one a with na
abbrev pub chosen_of : Choice → List ℕ → ℕ → List ℕ → ℕ → List ℕ
chosen_of Primary p np a na = front_of np p
chosen_of Alternate p np a na = front_of na a
