-- `additions::put` meets its contract: two bytes written one after the other are the addition, clipped.
use mathlib.Core.List.{[], ◌∷◌}
use mathlib.Core.Path.{refl, ◌∙◌}
use native.Mathlib.Omega.{arith}
use lib.ListN.{length-set}
use Rattle.additions.proofs.Clip.{clip_none, clip_some, together, clip_empty}
use Rattle.additions.proofs.put.Goals as goal

pub put_byte-requires : goal.put_byte-requires
put_byte-requires c = rw c.in-One.is at c.requires

pub bounds-buf-len : goal.bounds-buf-len
bounds-buf-len c =
    let h = rw (clip_some c.args.limit c.args.len c.in-Two.x (c.in-Two.y ∷ []) c.if-len-limit.true) at (rw c.in-Two.is at c.requires) in
    omega arith

pub put_byte-requires-then-len-limit : goal.put_byte-requires-then-len-limit
put_byte-requires-then-len-limit c =
    let h = rw (clip_some c.args.limit c.args.len c.in-Two.x (c.in-Two.y ∷ []) c.if-len-limit.true) at (rw c.in-Two.is at c.requires) in
    omega (arith, length-set c.args.buf.now c.args.len c.in-Two.x)

pub returns-in-Nothing : goal.returns-in-Nothing
returns-in-Nothing c = rw c.in-Nothing.is (clip_empty c.args.limit c.args.len c.args.buf.now)

pub returns-in-One : goal.returns-in-One
returns-in-One c = rw c.in-One.is c.put_byte.ensures

pub returns-then-len-limit : goal.returns-then-len-limit
returns-then-len-limit c =
    rw c.in-Two.is
    (c.put_byte-then-len-limit.ensures ∙ together c.args.limit c.args.len c.in-Two.x c.in-Two.y c.args.buf.now c.if-len-limit.true)

pub returns-else-len-limit : goal.returns-else-len-limit
returns-else-len-limit c = rw (c.in-Two.is, clip_none _ _ _ c.if-len-limit.false) refl
