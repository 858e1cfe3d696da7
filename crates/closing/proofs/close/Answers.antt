-- `closing::close` meets its contract.
use mathlib.Core.Path.{sym}
use lib.Seq.{length-take-le}
use Rattle.std.proofs.lemmas.Result.{err_from_is_err_and}
use Rattle.closing.proofs.Closed.{close_fits, good_entries, close_at, close_none}
use Rattle.closing.proofs.close.Goals as goal

pub slice_bounds-find_live-end : goal.slice_bounds-find_live-end
slice_bounds-find_live-end c = close_fits c.args.room.now c.args.len c.args.station _ (sym c.in_ok-whole.ensures)

pub slice_bounds-find_live-end-2 : goal.slice_bounds-find_live-end-2
slice_bounds-find_live-end-2 c =
    sym (length-take-le c.args.len c.args.room.now (close_fits c.args.room.now c.args.len c.args.station _ (sym c.in_ok-whole.ensures)))

pub find_live-requires : goal.find_live-requires
find_live-requires c = good_entries c.args.room.now c.args.len c.args.station _ (sym c.in_ok-whole.ensures)

pub returns-in_err-place : goal.returns-in_err-place
returns-in_err-place c =
    let a = c.args in
    let p = err_from_is_err_and c.from_residual-in_err-place.result c.from_residual-in_err-place.ensures.1 in
    rw (p.1, p.2) (close_none a.room.now a.len a.station _ (sym c.in_ok-whole.ensures) _ _ c.find_live.ensures c.in_err-place.was)

pub returns : goal.returns
returns c =
    let a = c.args in
    close_at a.room.now a.len a.station _ (sym c.in_ok-whole.ensures) _ _ c.find_live.ensures c.in_ok-place.was
