-- `letters_t::tion_text` meets its contract: its number is that of the condition.
use mathlib.Core.Path.{sym, ◌∙◌}
use Rattle.rules.specs.Told.{text_of}
use Rattle.rules.proofs.Told.{told_first, told_else, exactly, exact_or, exact_window}
use Rattle.letters_t.proofs.tion_text.Goals as goal

pub returns-then-tion-ne0 : goal.returns-then-tion-ne0
unfolding text_of
returns-then-tion-ne0 c =
    let e = c.text_ahead-tion.ensures in
    let p = exactly _ _ _ _ _ (exact_or _ _ _ _ _ (exact_window _ _ _ _ _ _) (exact_window _ _ _ _ _ _)) (e ∙ sym (told_first _ _ (λ h. c.if-tion-ne0.true (e ∙ h)))) in
    record { tells = p.0; holds = p.1 }

pub returns-else-tion-ne0 : goal.returns-else-tion-ne0
unfolding text_of
returns-else-tion-ne0 c =
    let p = exactly _ _ _ _ _ (exact_or _ _ _ _ _ (exact_window _ _ _ _ _ _) (exact_window _ _ _ _ _ _))
    (c.text_ahead.ensures ∙ sym (told_else _ _ (sym c.text_ahead-tion.ensures ∙ c.if-tion-ne0.false))) in
    record { tells = p.0; holds = p.1 }
