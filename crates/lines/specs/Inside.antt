-- What the functions below `feed` and `finish` promise each other; no caller sees it.
use Rattle.std.specs.Prelude.{ℕ, ◌+◌, ◌≤◌, ◌≡◌, List, [], ◌∷◌, length}
use Rattle.std.proofs.lemmas.List.Edits.{sets}
use Rattle.lines.specs.declared.Counts.{Counts}
use Rattle.line.specs.Line.{line_of, line_room}
use Rattle.lines.specs.Lines.{ended, written}
use Rattle.lines.specs.Feed.{Hand, hand, Holds, next}

-- the line of what is held, of n bytes, was stored in the output from `wrote` on
pub record Answered (h : Hand) (out : List ℕ) (wrote n : ℕ) (out' : List ℕ) : Type 0 where
  pub short : n ≤ line_room
  pub long : (p : List ℕ) → Holds p h → n ≡ length (line_of p)
  pub output : (p : List ℕ) → Holds p h → out' ≡ sets out wrote (line_of p)

-- one byte was read
pub record Stepped (b : ℕ) (h : Hand) (out : List ℕ) (wrote : ℕ) (r : Counts) (word' out' : List ℕ) : Type 0 where
  pub short : r.wrote ≤ wrote + line_room
  pub held : hand r.held word' ≡ next b h
  pub long : (p : List ℕ) → Holds p h → r.wrote ≡ wrote + length (written (ended p (b ∷ [])))
  pub output : (p : List ℕ) → Holds p h → out' ≡ sets out wrote (written (ended p (b ∷ [])))
