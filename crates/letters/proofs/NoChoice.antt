-- No public function's promise leaves a choice: for the same arguments, any two results that it admits are equal, and so are the
-- lent tallies at exit. Of `visit_into`, which is lent a struct, the promise is a proposition of the logic: two together give the
-- equations.
use mathlib.Core.Path.{sym, ◌∙◌}
use Rattle.basics.proofs.Choice.{OneResult}
use Rattle.letters.proofs.visit_at.Kinds as visit-at-kinds
use Rattle.letters.proofs.visit_at.Reads as visit-at

pub one_visit_at : OneResult visit-at-kinds.ps visit-at-kinds.r visit-at.Post
one_visit_at κs a x y s t p q = p ∙ sym q
