-- `listing::explain` meets its contract: each refusal of the encoder is the listing's, and an accepted word's visits are listed.
use mathlib.Core.Path.{ap, ◌∙◌}
use mathlib.Core.List.{List}
use native.Mathlib.Omega.{arith}
use lib.ListN.{length}
use Rattle.std.proofs.lemmas.Result.{err_from_is_err_and}
use Rattle.row.specs.Numbers.{Row}
use Rattle.listing.specs.Listing.{in_room, left_in}
use Rattle.listing.proofs.Answers.{refused, listed, listed_known, answered_fits, answered_visits, asks_few, rows_are}
use Rattle.listing.proofs.explain.Goals as goal

pub returns-in_err-coded : goal.returns-in_err-coded
returns-in_err-coded c =
    let p = err_from_is_err_and c.from_residual.result c.from_residual.ensures.1 in
    rw (p.1, p.2) (refused (omega arith) (omega arith) _ c.in_err-coded.ensures)

pub list-requires : goal.list-requires
list-requires c = asks_few c.in_ok-coded.ensures _ _ c.is_second-second.ensures c.edition_of.ensures _ c.trimmed.ensures

pub returns : goal.returns
returns c =
    let e = c.in_ok-coded.ensures in
    let a = c.args in
    let g = answered_fits e in
    listed a.edition a.limit a.word.now a.rows.now (listed_known e) g.0 g.1
    (c.list.ensures.answer ∙ ap (in_room (length a.rows.now)) (answered_visits e))
    (c.list.ensures.content
    ∙ ap (λ (rs : List Row). left_in rs a.rows.now) (rows_are e _ _ c.is_second-second.ensures c.edition_of.ensures _ c.trimmed.ensures))
