-- What `feed` and `finish` promise, for blocks of an input that is cut anywhere: what is written, what is held of the line that is
-- not ended, and how far a block is read, after document 01's "A line over 1,024 bytes gives !1 and is read through to its end".
-- `lines_output` of proofs/Cut.antt shows that any feeds and a finish write the definition's output of the whole input.
use Rattle.std.specs.Prelude.{ℕ, suc, ◌+◌, ◌≤◌, ◌<◌, ◌≡◌, List, [], ◌∷◌, ◌++◌, cond, eqb, ltb, length, take, set}
use Rattle.terms.specs.Limits.{word_limit}
use Rattle.encoder.specs.Encode.{filled}
use Rattle.lines.specs.declared.Progress.{Progress}
use Rattle.lines.specs.Lines.{ended, last, written}
use Rattle.line.specs.Line.{line_room}

-- the bytes held of a line: how many, and the buffer they lie in
pub record Hand : Type 0 where
  pub count : ℕ
  pub bytes : List ℕ

abbrev pub hand : ℕ → List ℕ → Hand
hand n buf = record { count = n; bytes = buf }

-- the line p is held: its bytes lie at the buffer's front, and of a line that is too long only that it is
pub record Holds (p : List ℕ) (h : Hand) : Type 0 where
  pub bytes : h.count ≤ word_limit → p ≡ take h.count h.bytes
  pub over : word_limit < h.count → word_limit < length p

-- what is held after one byte more of the line, after any byte, and after all bytes of a block
abbrev pub keep : ℕ → Hand → Hand
keep b h = cond (ltb h.count word_limit) (hand (suc h.count) (set h.bytes h.count b)) (hand (suc word_limit) h.bytes)

abbrev pub next : ℕ → Hand → Hand
next b h = cond (eqb b 10) (hand 0 h.bytes) (keep b h)

unfoldable pub after : List ℕ → Hand → Hand
after [] h = h
after (b ∷ l) h = after l (next b h)

-- with the line p held, the first `used` bytes of the block were read: what they end is at the front of the output, and before each
-- of them there was room for a line
pub record Read (p block out : List ℕ) (used wrote : ℕ) (out' : List ℕ) : Type 0 where
  pub wrote_is : wrote ≡ length (written (ended p (take used block)))
  pub output : out' ≡ filled (written (ended p (take used block))) out
  pub room : (k : ℕ) → k < used → length (written (ended p (take k block))) + line_room ≤ length out

-- what `feed` promises: it stops before the block's end only where there is no room for a line
pub record Fed (block : List ℕ) (h : Hand) (out : List ℕ) (r : Progress) (word' out' : List ℕ) : Type 0 where
  pub within : r.used ≤ length block
  pub fits : r.wrote ≤ length out
  pub early : r.used < length block → length out < r.wrote + line_room
  pub held : hand r.held word' ≡ after (take r.used block) h
  pub read : (p : List ℕ) → Holds p h → Read p block out r.used r.wrote out'

-- what `finish` promises: the last line's answer is at the front of the output
pub record Finished (h : Hand) (out : List ℕ) (n : ℕ) (out' : List ℕ) : Type 0 where
  pub fits : n ≤ line_room
  pub wrote_is : (p : List ℕ) → Holds p h → n ≡ length (written (last p))
  pub output : (p : List ℕ) → Holds p h → out' ≡ filled (written (last p)) out

-- blocks were fed one after another, cut anywhere, in any room: what was read of them, what was written, and what is held
pub data Run : List ℕ → List ℕ → Hand → Type 0 where
  start : (buf : List ℕ) → length buf ≡ word_limit → Run [] [] (hand 0 buf)
  fed : {i o : List ℕ} {h : Hand} {block out word' out' : List ℕ} {r : Progress} → Run i o h → Fed block h out r word' out'
      → Run (i ++ take r.used block) (o ++ take r.wrote out') (hand r.held word')
