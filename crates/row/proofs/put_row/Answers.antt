-- `row::put_row` meets its contract: what is copied are the row's numbers.
use Rattle.std.proofs.Common.{◌≡◌}
use Rattle.copying.proofs.Copies.{put_sets}
use Rattle.row.specs.Numbers.{row_of, numbers_of}
use Rattle.row.proofs.put_row.Goals as goal

pub returns : goal.returns
returns c =
    let a = c.args in
    let e : c.copy_from_slice.new.self ≡ numbers_of (row_of a.letter a.place a.spoken) = cc (c.from.ensures, c.gained.ensures, c.gained-2.ensures) in
    rw e (put_sets a.rows.now (numbers_of (row_of a.letter a.place a.spoken)) a.at c.requires.0)
