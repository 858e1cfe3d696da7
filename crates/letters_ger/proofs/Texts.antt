-- What the -ger- test tells: of all its windows the first one's text.
use Prim.Native.Nat.{ℕ, ◌+◌}
use mathlib.Core.Path.{◌≡◌, refl}
use mathlib.Core.List.{List}
use Rattle.basics.specs.Same.{same}
use Rattle.byte.specs.Text.{bytes}
use Rattle.windows.specs.Window.{text_at, texts}
use Rattle.rules.specs.CasesG.{ger}
use Rattle.rules.specs.Told.{text_of}
use Rattle.rules.proofs.Told.{told_alone, told_within}

-- the ER that `ger` asks for at any place is one of the texts that it asks for at place 0
pub ger_told : (u : List ℕ) (p : ℕ) → text_at u (p + 1) 2 (texts 2 (bytes "ESEPEBELEYIBILINIEEIER")) ≡ text_of ger u p
unfolding text_of same
ger_told u p =
    told_alone _ _
    (λ h. let er = told_within u (p + 1) 2 (texts 2 (bytes "ER")) (texts 2 (bytes "ESEPEBELEYIBILINIEEIER")) refl h in rw er refl)
