-- `entry::station_at` meets its contract.
use mathlib.Core.Path.{sym}
use lib.ListN.{drop}
use Rattle.entry.specs.Entry.{rising}
use Rattle.entry.proofs.Told.{rising_below, rising_good}
use Rattle.fields.proofs.Told.{passed, value_kept, value_refused, value_passed}
use Rattle.entry.proofs.station_at.Goals as goal

pub returns-in_err-found : goal.returns-in_err-found
returns-in_err-found c =
    let a = c.args in
    passed _ c.from_residual.ensures.1 (value_passed (rising a.floor) (drop a.at a.s.now) a.at _ (sym c.in_err-found.ensures))

pub returns-then-found-floor : goal.returns-then-found-floor
returns-then-found-floor c =
    let a = c.args in
    value_refused (rising a.floor) (drop a.at a.s.now) a.at _ _ (sym c.in_ok-found.ensures) (rising_below a.floor _ c.if-found-floor.true)

pub returns : goal.returns
returns c =
    let a = c.args in
    value_kept (rising a.floor) (drop a.at a.s.now) a.at _ (sym c.in_ok-found.ensures) (rising_good a.floor _ c.if-found-floor.false)
