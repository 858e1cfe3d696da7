-- No public function's promise leaves a choice: for the same arguments, any two results that it admits are equal.
use mathlib.Core.Path.{sym, ◌∙◌}
use Rattle.basics.proofs.Choice.{OneResult}
use Rattle.letters_gh.proofs.handle_gh.Kinds as handle-gh-kinds
use Rattle.letters_gh.proofs.handle_gh.Reads as handle-gh

pub one_handle_gh : OneResult handle-gh-kinds.ps handle-gh-kinds.r handle-gh.Post
one_handle_gh κs a x y s t p q = p ∙ sym q
