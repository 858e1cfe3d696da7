-- `windows::text_at` meets its contract.
use mathlib.Core.Path.{sym, ◌∙◌, ap}
use Prim.Native.Nat.{◌+◌}
use mathlib.Core.Path.{◌≡◌}
use Rattle.std.specs.Iterator.Adapters.{enumerate_source, enumerate_count}
use Rattle.std.specs.Slice.Iter.{chunks_exact_rest}
use Rattle.std.proofs.Common.{rules}
use Rattle.windows.proofs.Facts.{left_end, left_hit, left_miss, none_wide}
use Rattle.windows.proofs.text_at.Goals as goal

pub returns-then-width-eq0 : goal.returns-then-width-eq0
returns-then-width-eq0 c = none_wide _ _ _ _ c.if-width-eq0.true

pub returns-then-window_is : goal.returns-then-window_is
returns-then-window_is c =
    let k : c.in-Some.passed ≡ enumerate_count c.loop-passed.passed-iterator = search rules in
    ap (λ n. n + 1) k ∙ sym (left_hit _ _ _ _ _ c.in-Some.text.now (chunks_exact_rest (enumerate_source c.next.new.self)) _ c.if-width-eq0.false (search rules) (search rules) c.loop-passed.invariant.1 (sym c.window_is.ensures ∙ c.if-window_is.true))

pub loop-passed-preserved : goal.loop-passed-preserved
loop-passed-preserved c =
    let n : enumerate_count c.next.new.self ≡ enumerate_count c.loop-passed.passed-iterator + 1 = search rules in
    (search rules, rw n (left_miss _ _ _ _ _ c.in-Some.text.now (chunks_exact_rest (enumerate_source c.next.new.self)) _ c.if-width-eq0.false (search rules) (search rules) c.loop-passed.invariant.1 (sym c.window_is.ensures ∙ c.if-window_is.false)))

pub returns : goal.returns
returns c = sym (left_end _ _ _ _ _ _ (search rules) c.loop-passed.invariant.1)
