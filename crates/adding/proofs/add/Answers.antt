-- `adding::add` meets its contract.
use mathlib.Core.Path.{sym}
use native.Mathlib.Omega.{arith}
use Rattle.fields.proofs.Law.{bytes}
use Rattle.adding.proofs.Adding.{stands, coded_added}
use Rattle.adding.proofs.add.Goals as goal

pub add_coded-requires : goal.add_coded-requires
add_coded-requires c =
    let a = c.args in
    (stands a.room.now a.len a.station a.name.now _ (sym c.in_ok-whole.ensures), c.in_ok-new.ensures.short)

pub returns : goal.returns
returns c =
    let a = c.args in
    coded_added a.room.now a.len a.station a.name.now _ (sym c.in_ok-whole.ensures) (bytes a.room.now (λ i. omega (arith, c.slice_known-1.given i))) _ c.in_ok-new.ensures _ _ c.add_coded.ensures
