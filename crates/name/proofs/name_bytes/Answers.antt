-- `name::name_bytes` meets its contract.
use mathlib.Core.Path.{refl}
use Rattle.name.proofs.Told.{name_refused, name_clean}
use Rattle.name.proofs.name_bytes.Goals as goal

pub returns-in-None : goal.returns-in-None
returns-in-None c =
    let a = c.args in
    name_clean a.s.now a.start a.len _ _ c.least-there.ensures c.in-None.ensures refl _ c.bytes_at.ensures

pub returns-in-Some : goal.returns-in-Some
returns-in-Some c =
    let a = c.args in
    name_refused a.s.now a.start a.len _ _ c.least-there.ensures c.in-Some.ensures _ refl
