-- `additions::put_byte` meets its contract.
use mathlib.Core.Path.{refl}
use native.Mathlib.Omega.{arith}
use Rattle.additions.proofs.Clip.{clip_none, clip_last}
use Rattle.additions.proofs.put_byte.Goals as goal

pub returns-then-limit-len : goal.returns-then-limit-len
returns-then-limit-len c = rw (clip_none _ _ _ c.if-limit-len.true) refl

pub bounds-buf-len : goal.bounds-buf-len
bounds-buf-len c = let h = rw (clip_last _ _ _ c.if-limit-len.false) at c.requires in omega arith

pub returns : goal.returns
returns c = rw (clip_last _ _ _ c.if-limit-len.false) refl
