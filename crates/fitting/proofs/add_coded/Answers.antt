-- `fitting::add_coded` meets its contract: `BadNumber`, then `NotAbove` by all entries or by the live ones, then `NoRoom`.
use native.Mathlib.Omega.{arith}
use Rattle.fields.proofs.Law.{bytes}
use Rattle.fitting.proofs.Base.{standing, coded_behind, coded_short, coded_up}
use Rattle.fitting.proofs.add_coded.Goals as goal

pub returns-then-size-room : goal.returns-then-size-room
returns-then-size-room c =
    let a = c.args in
    coded_behind a.new a.room.now a.len a.whole c.requires.0 (bytes a.room.now (λ i. omega (arith, c.slice_known-1.given i))) (omega (arith, c.requires.0.fits, c.if-size-room.true, c.entry_size-size.ensures)) _ _ c.append_coded.ensures

pub overflow_add-base : goal.overflow_add-base
overflow_add-base c =
    let a = c.args in
    let x = standing a.room.now a.len a.whole c.requires.0 (bytes a.room.now (λ i. omega (arith, c.slice_known-1.given i))) in
    omega (arith, x.low)

pub overflow_sub-room-2 : goal.overflow_sub-room-2
overflow_sub-room-2 c =
    let a = c.args in
    let x = standing a.room.now a.len a.whole c.requires.0 (bytes a.room.now (λ i. omega (arith, c.slice_known-1.given i))) in
    omega (arith, x.low, c.requires.0.fits)

pub returns-then-room-base : goal.returns-then-room-base
returns-then-room-base c =
    let a = c.args in
    let b = bytes a.room.now (λ i. omega (arith, c.slice_known-1.given i)) in
    let x = standing a.room.now a.len a.whole c.requires.0 b in
    coded_short a.new a.room.now a.len a.whole c.requires.0 b (omega (arith, c.requires.0.fits, c.if-size-room.false, c.entry_size-size.ensures)) _ c.in_ok-station_from.ensures (omega (arith, x.low, c.requires.0.fits, c.if-room-base.true, c.entry_size-size.ensures))

pub close_up-requires : goal.close_up-requires
close_up-requires c =
    let a = c.args in
    let x = standing a.room.now a.len a.whole c.requires.0 (bytes a.room.now (λ i. omega (arith, c.slice_known-1.given i))) in
    (omega (arith, x.low), c.requires.0.fits, x.entries)

pub returns : goal.returns
returns c =
    let a = c.args in
    let b = bytes a.room.now (λ i. omega (arith, c.slice_known-1.given i)) in
    let x = standing a.room.now a.len a.whole c.requires.0 b in
    coded_up a.new a.room.now a.len a.whole c.requires.0 b (omega (arith, c.requires.0.fits, c.if-size-room.false, c.entry_size-size.ensures)) _ c.in_ok-station_from.ensures (omega (arith, x.low, c.requires.0.fits, c.if-room-base.false, c.entry_size-size.ensures)) _ _ c.close_up.ensures _ _ c.put_entry.ensures
