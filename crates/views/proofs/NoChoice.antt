-- No public function's promise leaves a choice: for the same arguments, any two results that it admits are equal.
use mathlib.Core.Path.{sym, ◌∙◌}
use Rattle.basics.proofs.Choice.{OneResult}
use Rattle.views.proofs.text_ahead.Kinds as text-ahead-kinds
use Rattle.views.proofs.text_ahead.Reads as text-ahead
use Rattle.views.proofs.text_behind.Kinds as text-behind-kinds
use Rattle.views.proofs.text_behind.Reads as text-behind
use Rattle.views.proofs.text_front.Kinds as text-front-kinds
use Rattle.views.proofs.text_front.Reads as text-front
use Rattle.views.proofs.ahead.Kinds as ahead-kinds
use Rattle.views.proofs.ahead.Reads as ahead
use Rattle.views.proofs.behind.Kinds as behind-kinds
use Rattle.views.proofs.behind.Reads as behind
use Rattle.views.proofs.front.Kinds as front-kinds
use Rattle.views.proofs.front.Reads as front
use Rattle.views.proofs.rear.Kinds as rear-kinds
use Rattle.views.proofs.rear.Reads as rear

pub one_text_ahead : OneResult text-ahead-kinds.ps text-ahead-kinds.r text-ahead.Post
one_text_ahead κs a x y s t p q = p ∙ sym q

pub one_text_behind : OneResult text-behind-kinds.ps text-behind-kinds.r text-behind.Post
one_text_behind κs a x y s t p q = p ∙ sym q

pub one_text_front : OneResult text-front-kinds.ps text-front-kinds.r text-front.Post
one_text_front κs a x y s t p q = p ∙ sym q

pub one_ahead : OneResult ahead-kinds.ps ahead-kinds.r ahead.Post
one_ahead κs a x y s t p q = p ∙ sym q

pub one_behind : OneResult behind-kinds.ps behind-kinds.r behind.Post
one_behind κs a x y s t p q = p ∙ sym q

pub one_front : OneResult front-kinds.ps front-kinds.r front.Post
one_front κs a x y s t p q = p ∙ sym q

pub one_rear : OneResult rear-kinds.ps rear-kinds.r rear.Post
one_rear κs a x y s t p q = p ∙ sym q
