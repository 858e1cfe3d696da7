-- How long a word and a code may be.
use Rattle.std.specs.Prelude.{ℕ, ◌-◌, ◌*◌, List, take, Option, Some, None}

-- how many bytes a code may have; `None` puts no bound
abbrev pub Limit : Type 0
Limit = Option ℕ

-- a code's first bytes; a shorter code counts whole
abbrev pub clip : Limit → List ℕ → List ℕ
clip None c = c
clip (Some n) c = take n c

-- the bytes that a word may have, before trimming
abbrev pub word_limit : ℕ
word_limit = 1024

-- the most bytes that a code has
abbrev pub code_room : ℕ
code_room = 2 * word_limit - 1
