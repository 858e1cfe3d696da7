-- `fields::text_at` meets its contract.
use mathlib.Core.Path.{sym}
use Rattle.fields.specs.Field.{any}
use Rattle.fields.proofs.Told.{passed, text_told, length_told}
use Rattle.fields.proofs.text_at.Goals as goal

pub returns-in_err-long : goal.returns-in_err-long
returns-in_err-long c =
    let a = c.args in
    passed _ c.from_residual.ensures.1 (length_told any any a.s.now a.at _ (sym c.in_err-long.ensures))

pub returns : goal.returns
returns c =
    let a = c.args in
    text_told any any a.s.now a.at _ _ (sym c.in_ok-long.ensures) c.bytes_at.ensures
