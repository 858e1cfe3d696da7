-- `entry::body_at` meets its contract.
use mathlib.Core.Path.{sym}
use native.Mathlib.Omega.{arith}
use Rattle.fields.proofs.Told.{passed}
use Rattle.entry.proofs.Told.{a_record, codes_bad, name_bad, station_bad, station_small}
use Rattle.entry.proofs.body_at.Goals as goal

pub returns-in_err-station : goal.returns-in_err-station
returns-in_err-station c =
    let a = c.args in
    passed _ c.from_residual.ensures.1 (station_bad a.s.now a.at a.kind a.floor _ (sym c.in_err-station.ensures))

pub returns-in_err-name : goal.returns-in_err-name
returns-in_err-name c =
    let a = c.args in
    passed _ c.from_residual-in_err-name.ensures.1 (name_bad a.s.now a.at a.kind a.floor _ (sym c.in_ok-station.ensures) _ (sym c.in_err-name.ensures))

pub returns-in_err-codes : goal.returns-in_err-codes
returns-in_err-codes c =
    let a = c.args in
    passed _ c.from_residual-in_err-codes.ensures.1 (codes_bad a.s.now a.at a.kind a.floor _ (sym c.in_ok-station.ensures) _ (sym c.in_ok-name.ensures) _ (sym c.in_err-codes.ensures))

pub overflow_add-result : goal.overflow_add-result
overflow_add-result c =
    let a = c.args in
    omega (arith, station_small a.s.now a.at a.kind a.floor _ (sym c.in_ok-station.ensures))

pub returns : goal.returns
returns c =
    let a = c.args in
    a_record a.s.now a.at a.kind a.floor _ (sym c.in_ok-station.ensures) _ (sym c.in_ok-name.ensures) _ (sym c.in_ok-codes.ensures)
