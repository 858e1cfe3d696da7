-- What is asked of a place in a word: a byte, a vowel, the end (document 01, modules 1 and 2). `u` is the word in capitals. A place below
-- 0 answers no, and so does one where nothing stands.
use Rattle.std.specs.Prelude.{ℕ, ◌+◌, ◌-◌, Bool, cond, ◌&&◌, List, leb, ltb, eqb, length, get_or}
use Rattle.byte.specs.Vowel.{vowel}

-- the byte at place `p` is `b`; nothing there is no match
unfoldable pub byte_at : List ℕ → ℕ → ℕ → Bool
byte_at u p b = ltb p (length u) && eqb (get_or u p 0) b

-- a vowel stands at place `p`; nothing there is no vowel
unfoldable pub vowel_at : List ℕ → ℕ → Bool
unfolding vowel
vowel_at u p = ltb p (length u) && vowel (get_or u p 0)

-- the question `f` of a place, asked `k` bytes back from `p`; a place below 0 answers no
abbrev pub step_back : ℕ → ℕ → (ℕ → Bool) → Bool
step_back p k f = leb k p && f (p - k)

-- the number that `f` tells of a place, asked `k` bytes back from `p`; a place below 0 tells 0
abbrev pub tell_back : ℕ → ℕ → (ℕ → ℕ) → ℕ
tell_back p k f = cond (leb k p) (f (p - k)) 0

-- asked `k` bytes before the end of `u`
abbrev pub from_rear : List ℕ → ℕ → (ℕ → Bool) → Bool
from_rear u k f = step_back (length u) k f

-- exactly `k` bytes stand behind place `p`
unfoldable pub ends_after : List ℕ → ℕ → ℕ → Bool
ends_after u p k = eqb (p + k + 1) (length u)

-- the word has `n` bytes
unfoldable pub is_long : List ℕ → ℕ → Bool
is_long u n = eqb (length u) n
