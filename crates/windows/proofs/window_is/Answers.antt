-- `windows::window_is` meets its contract. The loop's invariant: each byte passed is the text's.
use mathlib.Core.Path.{sym, ◌∙◌}
use native.Mathlib.Omega.{arith}
use borrow.Author.Count.{below_more}
use Rattle.windows.proofs.Facts.{window_same, window_differs, window_past, window_other}
use Rattle.windows.proofs.window_is.Goals as goal

pub returns-then-text-width : goal.returns-then-text-width
returns-then-text-width c = sym (window_other _ _ _ _ c.if-text-width.true)

pub returns-then-w-at : goal.returns-then-w-at
returns-then-w-at c = sym (window_past _ _ _ _ (omega arith))

pub returns-then-w-at-2 : goal.returns-then-w-at-2
returns-then-w-at-2 c = sym (window_past _ _ _ _ (omega arith))

pub returns-then-capital-x : goal.returns-then-capital-x
returns-then-capital-x c =
    sym (window_differs _ _ _ _ c.loop-i.i (omega arith) (λ e. c.if-capital-x.true (c.capital.ensures ∙ e)))

pub loop-i-preserved : goal.loop-i-preserved
loop-i-preserved c = below_more _ _ c.loop-i.invariant (sym c.capital.ensures ∙ c.if-capital-x.false)

pub returns : goal.returns
returns c = sym (window_same _ _ _ _ (omega arith) (omega arith) (λ k h. c.loop-i.invariant k (omega arith)))
