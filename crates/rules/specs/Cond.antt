-- The conditions of the letter rules, as data, and what they say of a place in a word. A condition is what the Rust's branches
-- ask with `contains`, `char_at`, `is_vowel`, the index, the length and the Slavo-Germanic mark; `non`, `&`, `or` stand where
-- the Rust has `!`, `&&`, `||`. One condition is not the Rust's: which edition of the rules is asked for (document 02, L4).
use Rattle.std.specs.Prelude.{ℕ, ◌+◌, Bool, true, false, not, ◌&&◌, ◌||◌, List, map, eqb, ltb}
use Prim.Native.Char.{Char, code}
use Prim.Native.String.{String}
use Rattle.byte.specs.Text.{bytes}
use Rattle.windows.specs.Window.{sees}
use Rattle.spots.specs.Spot.{byte_at, vowel_at, step_back, from_rear, ends_after, is_long}

infixl 40 ◌&◌
infixl 30 ◌or◌
-- where a test looks: `k` bytes ahead of the visited place, `k` bytes back, `k` bytes from the word's front, `k` before its end
pub data Spot : Type 0 where
  ahead : (k : ℕ) → Spot
  back : (k : ℕ) → Spot
  front : (k : ℕ) → Spot
  rear : (k : ℕ) → Spot

pub data Cond : Type 0 where
  -- no question: the Rust's last `else`
  always : Cond
  -- the window of `n` bytes there is one of the texts (the Rust's `contains`)
  window : Spot → (n : ℕ) → List String → Cond
  -- the byte there is this one (`char_at`)
  byte : Spot → Char → Cond
  -- a vowel stands there (`is_vowel`, with y)
  vowel : Spot → Cond
  -- the visited place is `k`, above `k`, below `k`
  place : (k : ℕ) → Cond
  past : (k : ℕ) → Cond
  below : (k : ℕ) → Cond
  -- exactly `k` bytes stand behind the visited place
  left : (k : ℕ) → Cond
  -- the word has `n` bytes
  long : (n : ℕ) → Cond
  -- the word has the Slavo-Germanic mark
  slavo : Cond
  -- the rules are those of edition 2
  edition2 : Cond
  non : Cond → Cond
  ◌&◌ : Cond → Cond → Cond
  ◌or◌ : Cond → Cond → Cond

-- what a rule is told besides the word and the place: the Slavo-Germanic mark, and whether the edition is the second
pub record Mode : Type 0 where
  pub mark : Bool
  pub second : Bool

abbrev pub mode : Bool → Bool → Mode
mode b e = record { mark = b; second = e }

-- for a rule that asks for the mark alone, for the edition alone, and for neither
abbrev pub marked : Bool → Mode
marked b = mode b false

abbrev pub edited : Bool → Mode
edited e = mode false e

abbrev pub plain : Mode
plain = mode false false

-- the question `f` of a place, asked at a spot; one before the front answers no
abbrev pub at : Spot → List ℕ → ℕ → (ℕ → Bool) → Bool
at (ahead k) u p f = f (p + k)
at (back k) u p f = step_back p k f
at (front k) u p f = f k
at (rear k) u p f = from_rear u k f

-- the condition holds in the word `u`, in capitals, at place `p`
unfoldable pub holds : Cond → List ℕ → ℕ → Mode → Bool
holds always u p m = true
holds (window s n ts) u p m = at s u p (λ (q : ℕ). sees u q n (map bytes ts))
holds (byte s b) u p m = at s u p (λ (q : ℕ). byte_at u q (code b))
holds (vowel s) u p m = at s u p (λ (q : ℕ). vowel_at u q)
holds (place k) u p m = eqb p k
holds (past k) u p m = ltb k p
holds (below k) u p m = ltb p k
holds (left k) u p m = ends_after u p k
holds (long n) u p m = is_long u n
holds slavo u p m = m.mark
holds edition2 u p m = m.second
holds (non c) u p m = not (holds c u p m)
holds (c & d) u p m = holds c u p m && holds d u p m
holds (c or d) u p m = holds c u p m || holds d u p m
