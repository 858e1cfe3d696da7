-- What the line reader writes, as a function of its whole input, after document 01's "A line ends at byte 10; a last line without it
-- counts; nothing after a final byte 10 is no line. For each it writes primary, tab, alternate, byte 10", "A refusal writes !, its
-- number and byte 10 instead". `split` and `split_one` of proofs/Split.antt show that these are the input's lines and no others.
use Rattle.std.specs.Prelude.{ℕ, ◌≡◌, List, [], ◌∷◌, ◌++◌, Bool, false, cond, ◌||◌, eqb}
use Rattle.line.specs.Line.{line_of}

-- the lines that end in i, and the line that is begun behind them, where the first begins with p
unfoldable pub ended : List ℕ → List ℕ → List (List ℕ)
ended p [] = []
ended p (b ∷ i) = cond (eqb b 10) (p ∷ ended [] i) (ended (p ++ b ∷ []) i)

unfoldable pub begun : List ℕ → List ℕ → List ℕ
begun p [] = p
begun p (b ∷ i) = cond (eqb b 10) (begun [] i) (begun (p ++ b ∷ []) i)

-- a last line without byte 10 counts, and nothing is no line
abbrev pub last : List ℕ → List (List ℕ)
last [] = []
last (b ∷ p) = (b ∷ p) ∷ []

unfoldable pub lines_of : List ℕ → List (List ℕ)
lines_of i = ended [] i ++ last (begun [] i)

-- what is written for lines, and for an input
abbrev pub written : List (List ℕ) → List ℕ
written [] = []
written (l ∷ ls) = line_of l ++ written ls

unfoldable pub output_of : List ℕ → List ℕ
output_of i = written (lines_of i)

-- i is the lines ls, each before a byte 10, and then the rest, and none of them has a byte 10
abbrev pub joined : List (List ℕ) → List ℕ → List ℕ
joined [] rest = rest
joined (l ∷ ls) rest = l ++ 10 ∷ joined ls rest

abbrev pub has_end : List ℕ → Bool
has_end [] = false
has_end (b ∷ l) = eqb b 10 || has_end l

abbrev pub some_end : List (List ℕ) → Bool
some_end [] = false
some_end (l ∷ ls) = has_end l || some_end ls

pub record Split (i : List ℕ) (ls : List (List ℕ)) (rest : List ℕ) : Type 0 where
  pub whole : i ≡ joined ls rest
  pub lines : some_end ls ≡ false
  pub behind : has_end rest ≡ false
