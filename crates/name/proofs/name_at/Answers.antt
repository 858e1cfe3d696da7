-- `name::name_at` meets its contract.
use mathlib.Core.Path.{sym}
use lib.ListN.{drop}
use Rattle.name.specs.Named.{name_length, name_byte}
use Rattle.fields.proofs.Told.{passed, value_kept, value_refused, value_passed, text_told, length_told}
use Rattle.name.proofs.Told.{long_name, short_name, length_within}
use Rattle.name.proofs.name_at.Goals as goal

pub returns-in_err-long : goal.returns-in_err-long
returns-in_err-long c =
    let a = c.args in
    passed _ c.from_residual.ensures.1 (length_told name_length name_byte a.s.now a.at _ (sym (value_passed name_length (drop a.at a.s.now) a.at _ (sym c.in_err-long.ensures))))

pub returns-then-len-gt-WORD_LIMIT : goal.returns-then-len-gt-WORD_LIMIT
returns-then-len-gt-WORD_LIMIT c =
    let a = c.args in
    length_told name_length name_byte a.s.now a.at _ (sym (value_refused name_length (drop a.at a.s.now) a.at _ _ (sym c.in_ok-long.ensures) (long_name _ c.if-len-gt-WORD_LIMIT.true)))

pub name_bytes-requires : goal.name_bytes-requires
name_bytes-requires c =
    let a = c.args in
    length_within a.s.now a.at _ (sym c.in_ok-long.ensures)

pub returns : goal.returns
returns c =
    let a = c.args in
    text_told name_length name_byte a.s.now a.at _ _ (sym (value_kept name_length (drop a.at a.s.now) a.at _ (sym c.in_ok-long.ensures) (short_name _ c.if-len-gt-WORD_LIMIT.false))) c.name_bytes.ensures
