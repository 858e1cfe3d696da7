-- `views::text_ahead` meets its contract.
use native.Mathlib.Omega.{arith}
use Rattle.windows.proofs.Facts.{text_past}
use Rattle.views.proofs.text_ahead.Goals as goal

pub returns-then-w-at : goal.returns-then-w-at
returns-then-w-at c = text_past _ _ _ _ (omega arith)

pub returns-then-w-at-2 : goal.returns-then-w-at-2
returns-then-w-at-2 c = text_past _ _ _ _ (omega arith)
