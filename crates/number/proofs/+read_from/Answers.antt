-- `number::read_from` meets its contract, by the number of groups that are left.
use Rattle.std.proofs.Common.{rules, ℕ, ◌+◌, ◌-◌, ◌<◌}
use Prim.Native.Nat.{◌^◌}
use mathlib.Core.Path.{ap, sym, ◌∙◌}
use mathlib.Core.Bool.{false}
use native.Mathlib.Omega.{arith}
use borrow.Author.Tests.{le-ltb}
use Rattle.number.specs.Septets.{found, behind}
use Rattle.number.proofs.Laws.{bounds, low, three, combined, reads_step}
use Rattle.number.proofs.+read_from.Goals as goal

pub overflow_add-result : goal.overflow_add-result
overflow_add-result t c =
    let a = c.args in
    let f = bounds (a.left - 1) false c.in-Some.behind.now c.in_ok-rest.rest.value c.in_ok-rest.rest.used (sym c.in_ok-rest.ensures) in
    omega (arith, f.used)

pub returns : goal.returns
returns t c =
    let a = c.args in
    let r = c.in_ok-rest.rest in
    let f = bounds (a.left - 1) false c.in-Some.behind.now r.value r.used (sym c.in_ok-rest.ensures) in
    let b : ℕ = c.in-Some.field-0-0.now in
    let small : r.value < 2 ^ 21 = three (a.left - 1) r.value (omega (arith, c.requires)) f.value in
    ap (λ (y : ℕ). found y (r.used + 1)) (combined r.value b c.from-2.result small (c.from-2.ensures ∙ low b))
    ∙ sym
    (reads_step a.left a.first b a.s.now c.in-Some.behind.now c.if-left-eq0.false (search rules)
    ∙ simp (le-ltb b 128 c.if-b-lt128.false) (ap (behind b) (sym c.in_ok-rest.ensures)))
