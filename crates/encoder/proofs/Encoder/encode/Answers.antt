-- `encoder::Encoder::encode` meets its contract, since at each return the tests that led there say which answer it is.
use mathlib.Core.Path.{sym, ap, ◌∙◌}
use native.Mathlib.Omega.{arith}
use lib.ListN.{length}
use Rattle.trimming.proofs.Trim.{trimmed_length}
use Rattle.encoder.proofs.Answers.{too_long_lem, not_ascii_lem, primary_short, alternate_short, has_room, coded}
use Rattle.encoder.proofs.Encoder.encode.Goals as goal

pub returns-then-word-gt-WORD_LIMIT : goal.returns-then-word-gt-WORD_LIMIT
returns-then-word-gt-WORD_LIMIT c =
    let a = c.args in
    too_long_lem a.self.edition a.self.limit a.word.now a.primary.now a.alternate.now (omega arith)

pub returns-then-not-is_ascii : goal.returns-then-not-is_ascii
returns-then-not-is_ascii c =
    let a = c.args in
    not_ascii_lem a.self.edition a.self.limit a.word.now a.primary.now a.alternate.now (omega arith) c.first_high.result
    c.first_high.ensures (sym c.is_ascii.ensures ∙ c.if-not-is_ascii.true)

pub need_of-need-requires : goal.need_of-need-requires
need_of-need-requires c = omega (arith, ap length c.trimmed-inner.ensures, trimmed_length c.args.word.now)

pub cap_of-cap-requires : goal.cap_of-cap-requires
cap_of-cap-requires c = omega (arith, ap length c.trimmed-inner.ensures, trimmed_length c.args.word.now)

pub returns-then-primary-need : goal.returns-then-primary-need
returns-then-primary-need c =
    let a = c.args in
    primary_short a.self.edition a.self.limit a.word.now a.primary.now a.alternate.now (omega arith) (sym c.is_ascii.ensures ∙ c.if-not-is_ascii.false)
    _ c.trimmed-inner.ensures _ c.need_of-need.ensures (omega arith)

pub returns-then-alternate-need : goal.returns-then-alternate-need
returns-then-alternate-need c =
    let a = c.args in
    alternate_short a.self.edition a.self.limit a.word.now a.primary.now a.alternate.now (omega arith) (sym c.is_ascii.ensures ∙ c.if-not-is_ascii.false)
    _ c.trimmed-inner.ensures _ c.need_of-need.ensures (omega arith) (omega arith)

pub walk-tally-requires : goal.walk-tally-requires
walk-tally-requires c =
    let a = c.args in
    has_room a.self.edition a.self.limit a.word.now a.primary.now a.alternate.now (omega arith) (sym c.is_ascii.ensures ∙ c.if-not-is_ascii.false)
    _ c.trimmed-inner.ensures _ c.need_of-need.ensures (omega arith) (omega arith) _ c.cap_of-cap.ensures

pub returns : goal.returns
returns c =
    let a = c.args in
    let t = c.walk-tally in
    coded a.self.edition a.self.limit a.word.now a.primary.now a.alternate.now (omega arith) (sym c.is_ascii.ensures ∙ c.if-not-is_ascii.false)
    _ c.trimmed-inner.ensures _ c.need_of-need.ensures (omega arith) (omega arith) _ c.cap_of-cap.ensures
    t.result _ _ t.ensures.tally t.ensures.primary t.ensures.alternate
