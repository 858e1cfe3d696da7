-- No public function's promise leaves a choice: for the same arguments, any two results that it admits are equal.
use mathlib.Core.Path.{sym, ◌∙◌}
use Rattle.basics.proofs.Choice.{OneResult}
use Rattle.outcome.proofs.Visit.both.Kinds as both-kinds
use Rattle.outcome.proofs.Visit.both.Reads as both
use Rattle.outcome.proofs.Visit.split.Kinds as split-kinds
use Rattle.outcome.proofs.Visit.split.Reads as split
use Rattle.outcome.proofs.Spoken.both.Kinds as spoken-both-kinds
use Rattle.outcome.proofs.Spoken.both.Reads as spoken-both
use Rattle.outcome.proofs.Spoken.split.Kinds as spoken-split-kinds
use Rattle.outcome.proofs.Spoken.split.Reads as spoken-split
use Rattle.outcome.proofs.Spoken.either.Kinds as spoken-either-kinds
use Rattle.outcome.proofs.Spoken.either.Reads as spoken-either
use Rattle.outcome.proofs.or_else.Kinds as or-else-kinds
use Rattle.outcome.proofs.or_else.Reads as or_else

pub one_both : OneResult both-kinds.ps both-kinds.r both.Post
one_both κs a x y s t p q = p ∙ sym q

pub one_split : OneResult split-kinds.ps split-kinds.r split.Post
one_split κs a x y s t p q = p ∙ sym q

pub one_spoken_both : OneResult spoken-both-kinds.ps spoken-both-kinds.r spoken-both.Post
one_spoken_both κs a x y s t p q = p ∙ sym q

pub one_spoken_split : OneResult spoken-split-kinds.ps spoken-split-kinds.r spoken-split.Post
one_spoken_split κs a x y s t p q = p ∙ sym q

pub one_spoken_either : OneResult spoken-either-kinds.ps spoken-either-kinds.r spoken-either.Post
one_spoken_either κs a x y s t p q = p ∙ sym q

pub one_or_else : OneResult or-else-kinds.ps or-else-kinds.r or_else.Post
one_or_else κs a x y s t p q = p ∙ sym q
