-- `line::build_line` meets its contract: what is lent behind the tab comes back with the alternate code at its front, and the primary
-- code is put before the tab.
use Prim.Native.Nat.{ℕ, ◌+◌, ◌-◌}
use mathlib.Core.List.{List}
use mathlib.Core.Path.{ap, ◌∙◌}
use native.Mathlib.Omega.{arith}
use lib.ListN.{length, set, length-set}
use lib.Seq.{sets}
use Rattle.std.specs.Prelude.{Err}
use Rattle.line.proofs.Place.{lies_in, built}
use Rattle.line.proofs.Line.{primary, alternate, line_by_lem, coded, one_digit, refused_line}
use Rattle.line.proofs.Codes.{mid, room, mid_long, codes}
use Rattle.line.proofs.build_line.Goals as goal

pub slice_bounds-encode-count : goal.slice_bounds-encode-count
slice_bounds-encode-count c = simp length-set (omega arith)

pub overflow_sub-start : goal.overflow_sub-start
overflow_sub-start c =
    let w : List ℕ = c.args.word.now in
    let line : List ℕ = c.args.line.now in
    let e = c.encode in
    let t = codes w line _ e.new.primary e.new.alternate _ _ c.requires (coded c.default.ensures e.ensures _ c.in-Ok.is) in
    let long = mid_long line e.new.alternate c.requires e.auto.alternate in
    t.primary_four

pub slice_bounds-code-end : goal.slice_bounds-code-end
slice_bounds-code-end c =
    let w : List ℕ = c.args.word.now in
    let line : List ℕ = c.args.line.now in
    let e = c.encode in
    let t = codes w line _ e.new.primary e.new.alternate _ _ c.requires (coded c.default.ensures e.ensures _ c.in-Ok.is) in
    let long = mid_long line e.new.alternate c.requires e.auto.alternate in
    omega (arith, t.primary_four, e.auto.primary)

pub copy_to-requires : goal.copy_to-requires
copy_to-requires c =
    let w : List ℕ = c.args.word.now in
    let line : List ℕ = c.args.line.now in
    let e = c.encode in
    let t = codes w line _ e.new.primary e.new.alternate _ _ c.requires (coded c.default.ensures e.ensures _ c.in-Ok.is) in
    let long = mid_long line e.new.alternate c.requires e.auto.alternate in
    omega (arith, long, t.primary_four, t.primary_long, ap length t.code)

pub overflow_add-end : goal.overflow_add-end
overflow_add-end c =
    let w : List ℕ = c.args.word.now in
    let line : List ℕ = c.args.line.now in
    let e = c.encode in
    let t = codes w line _ e.new.primary e.new.alternate _ _ c.requires (coded c.default.ensures e.ensures _ c.in-Ok.is) in
    let long = mid_long line e.new.alternate c.requires e.auto.alternate in
    omega (arith, t.alternate_four)

pub bounds-line-end : goal.bounds-line-end
bounds-line-end c =
    let w : List ℕ = c.args.word.now in
    let line : List ℕ = c.args.line.now in
    let e = c.encode in
    let t = codes w line _ e.new.primary e.new.alternate _ _ c.requires (coded c.default.ensures e.ensures _ c.in-Ok.is) in
    let long = mid_long line e.new.alternate c.requires e.auto.alternate in
    omega (arith, t.alternate_four, long, c.copy_to.auto.out)

pub overflow_add-result : goal.overflow_add-result
overflow_add-result c =
    let w : List ℕ = c.args.word.now in
    let line : List ℕ = c.args.line.now in
    let e = c.encode in
    let t = codes w line _ e.new.primary e.new.alternate _ _ c.requires (coded c.default.ensures e.ensures _ c.in-Ok.is) in
    let long = mid_long line e.new.alternate c.requires e.auto.alternate in
    omega (arith, t.alternate_four)

pub refuse-requires : goal.refuse-requires
refuse-requires c =
    (mid_long c.args.line.now c.encode.new.alternate c.requires c.encode.auto.alternate, omega (arith, c.from.ensures, one_digit c.in-Err.refusal))

pub returns-in-Ok : goal.returns-in-Ok
returns-in-Ok c =
    let w : List ℕ = c.args.word.now in
    let line : List ℕ = c.args.line.now in
    let e = c.encode in
    let t = codes w line _ e.new.primary e.new.alternate _ _ c.requires (coded c.default.ensures e.ensures _ c.in-Ok.is) in
    let long = mid_long line e.new.alternate c.requires e.auto.alternate in
    let np : ℕ = c.in-Ok.coded.primary in
    let na : ℕ = c.in-Ok.coded.alternate in
    lies_in (line_by_lem c.default.ensures e.ensures (omega arith) (room line c.requires) _ c.in-Ok.is)
    (ap (λ (l : List ℕ). set l (5 + na) 10) (c.copy_to.ensures ∙ ap (λ (l : List ℕ). sets (mid line e.new.alternate) (4 - np) l) t.code))
    (built line (primary w) (alternate w) (mid line e.new.alternate) np na c.requires long t.primary_long t.alternate_long t.primary_four t.alternate_four t.whole)

pub returns-in-Err : goal.returns-in-Err
returns-in-Err c =
    rw (
      line_by_lem c.default.ensures c.encode.ensures (omega arith) (room c.args.line.now c.requires) (Err _) c.in-Err.is
          ∙ refused_line c.in-Err.refusal (primary c.args.word.now) (alternate c.args.word.now),
      ← c.from.ensures,
    ) c.refuse.ensures
