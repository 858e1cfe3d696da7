-- `ascii::first_high` meets its contract.
use Rattle.std.proofs.Common.{rules, tests, ◌≡◌, leb}
use Rattle.std.proofs.lemmas.Iterator.{YieldsList-from_slice}
use Rattle.std.proofs.lemmas.Iterator.Search.{position_from_yields_List}
use Rattle.std.specs.List.{position}
use Rattle.ascii.proofs.High.{position_high}
use Rattle.ascii.proofs.first_high.Goals as goal

pub returns : goal.returns
returns c =
    let e : c.position.result ≡ position (λ b. leb 128 b) c.args.w.now =
    position_from_yields_List (λ b. leb 128 b) _ _ c.position.result c.position.ensures.ran (YieldsList-from_slice c.args.w.now cc) (λ x b q k. search (rules, tests))
    in
    cc (e, position_high c.args.w.now)
