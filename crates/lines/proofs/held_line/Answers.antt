-- `lines::held_line` meets its contract, since a line that is too long is refused by 1, and any other is the buffer's front.
use Prim.Native.Nat.{ℕ}
use mathlib.Core.List.{List}
use mathlib.Core.Path.{refl, ap}
use native.Mathlib.Omega.{arith}
use lib.ListN.{length-take}
use Rattle.line.specs.Line.{line_of}
use Rattle.line.proofs.Place.{lies_in}
use Rattle.line.proofs.Line.{too_long_line}
use Rattle.lines.proofs.held_line.Goals as goal

pub returns-then-held-gt-WORD_LIMIT : goal.returns-then-held-gt-WORD_LIMIT
returns-then-held-gt-WORD_LIMIT c = λ p x. lies_in (too_long_line p (x.over c.if-held-gt-WORD_LIMIT.true)) refl c.refuse.ensures

pub slice_bounds-build_line-end : goal.slice_bounds-build_line-end
slice_bounds-build_line-end c = simp length-take (omega arith)

pub returns : goal.returns
returns c =
    λ p x. lies_in (ap (λ (l : List ℕ). line_of l) (x.bytes c.if-held-gt-WORD_LIMIT.false)) refl c.build_line.ensures
