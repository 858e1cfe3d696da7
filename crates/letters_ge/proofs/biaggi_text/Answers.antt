-- `letters_ge::biaggi_text` meets its contract: its number is that of the condition.
use mathlib.Core.Path.{sym, ◌∙◌}
use Rattle.rules.specs.Told.{text_of}
use Rattle.rules.proofs.Told.{exactly, told_first, told_else}
use Rattle.letters_ge.proofs.Exact.{exact_biaggi}
use Rattle.letters_ge.proofs.biaggi_text.Goals as goal

pub returns-then-next-ne0 : goal.returns-then-next-ne0
unfolding text_of
returns-then-next-ne0 c =
    let e = c.text_ahead-next.ensures in
    let p = exactly _ _ _ _ _ (exact_biaggi _ _ _) (e ∙ sym (told_first _ _ (λ h. c.if-next-ne0.true (e ∙ h)))) in
    record { tells = p.0; holds = p.1 }

pub returns-else-next-ne0 : goal.returns-else-next-ne0
unfolding text_of
returns-else-next-ne0 c =
    let p = exactly _ _ _ _ _ (exact_biaggi _ _ _) (c.text_behind.ensures ∙ sym (told_else _ _ (sym c.text_ahead-next.ensures ∙ c.if-next-ne0.false))) in
    record { tells = p.0; holds = p.1 }
