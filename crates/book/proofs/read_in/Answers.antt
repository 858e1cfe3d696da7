-- `book::read_in` meets its contract.
use mathlib.Core.Path.{sym}
use Rattle.fields.proofs.Told.{passed}
use Rattle.header.specs.Head.{formats}
use Rattle.book.proofs.Room.{in_bad, in_short, in_good}
use Rattle.book.proofs.read_in.Goals as goal

pub returns-in_err-whole : goal.returns-in_err-whole
returns-in_err-whole c =
    let a = c.args in
    passed _ c.from_residual.ensures.1 (in_bad (formats a.least) a.room.now a.len _ c.least-there.ensures _ (sym c.in_err-whole.ensures))

pub returns-then-room-len : goal.returns-then-room-len
returns-then-room-len c =
    let a = c.args in
    in_short (formats a.least) a.room.now a.len _ c.least-there.ensures _ (sym c.in_ok-whole.ensures) c.if-room-len.true

pub returns : goal.returns
returns c =
    let a = c.args in
    in_good (formats a.least) a.room.now a.len _ c.least-there.ensures _ (sym c.in_ok-whole.ensures) c.if-room-len.false
