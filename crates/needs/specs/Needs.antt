-- The room that a word needs, and the limit that its walk is given.
use Rattle.std.specs.Prelude.{ℕ, ◌-◌, ◌*◌, min}
use Rattle.terms.specs.Limits.{Limit}
use Rattle.std.specs.Prelude.{Some, None}

-- 2t - 1 for a trimmed word of t bytes (0 for none), or the limit if that is smaller
abbrev pub need_of : Limit → ℕ → ℕ
need_of None t = 2 * t - 1
need_of (Some n) t = min n (2 * t - 1)

-- the limit that the walk is given: with none, more bytes than a code has
abbrev pub cap_of : Limit → ℕ → ℕ
cap_of None t = 2 * t
cap_of (Some n) t = n
