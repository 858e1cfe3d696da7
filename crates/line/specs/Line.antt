-- The line of a word: what is written for it, and where it lies in a buffer.
use Rattle.std.specs.Prelude.{ℕ, suc, ◌+◌, ◌≤◌, ◌-◌, zero, ◌≡◌, List, [], ◌∷◌, ◌++◌, length, take, drop}
use Rattle.encoder.specs.Encode.{default_limit, number_of, answer_of, primary_of, alternate_of}
use Rattle.line.specs.declared.Span.{Span}
use Rattle.terms.specs.declared.Edition.TheVariants.{E1}
use Rattle.std.specs.Prelude.{Some}
use Rattle.trimming.specs.Trim.{trimmed}

-- the longest line that is written: two codes of 4 bytes, a tab and byte 10
abbrev pub line_room : ℕ
line_room = 10

-- the line l lies in the buffer, from the range's start to its end
pub record Lies (l : List ℕ) (s : Span) (buf : List ℕ) : Type 0 where
  pub ordered : s.start ≤ s.end
  pub within : s.end ≤ length buf
  pub bytes : take (s.end - s.start) (drop s.start buf) ≡ l

-- the line for an answer of the encoder, by its number and the two codes
abbrev pub line_by : ℕ → List ℕ → List ℕ → List ℕ
line_by zero p a = p ++ 9 ∷ (a ++ 10 ∷ [])
line_by (suc n) p a = 33 ∷ (48 + suc n) ∷ 10 ∷ []

-- the line of a word, under edition 1 and the default limit: buffers of as many bytes are never too short
unfoldable pub line_of : List ℕ → List ℕ
line_of w =
    line_by (number_of (answer_of E1 (Some default_limit) w default_limit default_limit)) (primary_of E1 (Some default_limit) (trimmed w))
    (alternate_of E1 (Some default_limit) (trimmed w))
