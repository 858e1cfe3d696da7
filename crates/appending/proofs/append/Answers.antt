-- `appending::append` meets its contract.
use mathlib.Core.Path.{sym, ap}
use native.Mathlib.Omega.{arith}
use Rattle.std.proofs.lemmas.Result.{err_from_is_err_and}
use Rattle.appending.specs.Ended.{behind}
use Rattle.appending.proofs.Ends.{appended, coded_placed, station_small}
use Rattle.appending.proofs.append.Goals as goal

pub returns-in_err-len : goal.returns-in_err-len
returns-in_err-len c =
    let a = c.args in
    let p = err_from_is_err_and c.from_residual-in_err-len.result c.from_residual-in_err-len.ensures.1 in
    let y = coded_placed a.room.now a.end a.station a.name.now _ c.in_ok-new.ensures _ _ c.append_coded.ensures in
    rw (p.1, p.2) (appended a.room.now a.end a.station a.name.now (sym c.in_ok-check_end.ensures) _ _ y _ (sym (ap (behind a.end a.station) c.in_err-len.was)))

pub overflow_cast-result : goal.overflow_cast-result
overflow_cast-result c =
    let a = c.args in
    omega (arith, station_small a.room.now a.end a.station a.name.now _ _ (coded_placed a.room.now a.end a.station a.name.now _ c.in_ok-new.ensures _ _ c.append_coded.ensures) _ c.in_ok-len.was)

pub overflow_add-result : goal.overflow_add-result
overflow_add-result c =
    let a = c.args in
    omega (arith, station_small a.room.now a.end a.station a.name.now _ _ (coded_placed a.room.now a.end a.station a.name.now _ c.in_ok-new.ensures _ _ c.append_coded.ensures) _ c.in_ok-len.was)

pub returns : goal.returns
returns c =
    let a = c.args in
    let y = coded_placed a.room.now a.end a.station a.name.now _ c.in_ok-new.ensures _ _ c.append_coded.ensures in
    appended a.room.now a.end a.station a.name.now (sym c.in_ok-check_end.ensures) _ _ y _ (sym (ap (behind a.end a.station) c.in_ok-len.was))
