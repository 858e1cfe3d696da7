-- The bytes of a part of a slice, and none where it does not lie inside.
use Rattle.std.specs.Prelude.{ℕ, ◌+◌, cond, List, [], ltb, length, take, drop}
use Rattle.slices.specs.declared.Span.{Span}

-- the bytes of a part, and none where it does not lie in s
abbrev pub within : List ℕ → Span → List ℕ
within s p = cond (ltb (length s) (p.start + p.len)) [] (take p.len (drop p.start s))
