-- `fields::put_number` meets its contract: there is room, so the write is not refused.
use mathlib.Core.Path.{sym, ◌∙◌}
use Rattle.fields.proofs.Put.{number_goes, number_put}
use Rattle.fields.proofs.put_number.Goals as goal

pub unwrap-requires : goal.unwrap-requires
unwrap-requires c =
    let a = c.args in
    rw (c.write_number.ensures.0, number_goes a.out.now a.at a.x c.requires.0 c.requires.1)

pub returns : goal.returns
returns c =
    let a = c.args in
    number_put a.out.now a.at a.x _ _ c.requires.0 c.requires.1 (sym c.write_number.ensures.0 ∙ c.unwrap.ensures) c.write_number.ensures.1
