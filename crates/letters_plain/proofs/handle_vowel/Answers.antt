-- `letters_plain::handle_vowel` meets its contract: its test is that of the first case.
use borrow.Author.Tests.{eq-eqb, ne_eqb}
use Rattle.rules.specs.Cond.{holds}
use Rattle.rules.specs.Told.{text_of, speaker}
use Rattle.rules.specs.Plain.{cases_vowel}
use Rattle.letters_plain.proofs.handle_vowel.Goals as goal

pub returns-then-at-eq0 : goal.returns-then-at-eq0
unfolding speaker holds text_of cases_vowel
returns-then-at-eq0 c = simp (eq-eqb _ _ c.if-at-eq0.true) c.both.ensures

pub returns-else-at-eq0 : goal.returns-else-at-eq0
unfolding speaker holds text_of cases_vowel
returns-else-at-eq0 c = simp (ne_eqb _ _ c.if-at-eq0.false) c.both-else-at-eq0.ensures
