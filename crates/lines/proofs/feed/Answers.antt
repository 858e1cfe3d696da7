-- `lines::feed` meets its contract, since the bytes passed were read, what they leave of a line is held, and before each there was
-- room for a line.
use mathlib.Core.Path.{refl, sym, ap, ◌∙◌}
use native.Mathlib.Omega.{arith}
use Rattle.std.proofs.Common.{ℕ, ◌≡◌, ◌<◌, length, subst}
use lib.ListN.{take, get_or}
use Rattle.lines.specs.Feed.{Hand, hand, next, after, Fed}
use Rattle.lines.proofs.Hand.{holds_at, after_long, after_one}
use Rattle.lines.proofs.Read.{read_none, read_on}
use Rattle.lines.proofs.feed.Goals as goal

pub loop-used-init : goal.loop-used-init
unfolding after
loop-used-init c =
    record {
      passed = omega arith;
      fits = omega arith;
      out_long = refl;
      held_is = refl;
      read = λ p x. read_none p c.args.block.now c.args.out.now;
    }

pub returns-then-out-wrote-lt-LINE_ROOM : goal.returns-then-out-wrote-lt-LINE_ROOM
returns-then-out-wrote-lt-LINE_ROOM c =
    let i = c.loop-used.invariant in
    record { within = i.passed; fits = i.fits; early = λ l. omega (arith, i.out_long); held = i.held_is; read = i.read }

pub loop-used-preserved : goal.loop-used-preserved
loop-used-preserved c =
    let at = c.loop-used in
    let i = at.invariant in
    let a = c.args in
    let s = c.step-s in
    let inside : at.used < length a.block.now = omega arith in
    let long : length at.word ≡ length a.word.now = ap (λ (h : Hand). length h.bytes) i.held_is ∙ after_long (take at.used a.block.now) (hand a.held a.word.now) in
    record {
      passed = omega arith;
      fits = omega (arith, s.ensures.short, i.out_long);
      out_long = s.auto.out ∙ i.out_long;
      held_is = s.ensures.held ∙ ap (λ (h : Hand). next (get_or a.block.now at.used 0) h) i.held_is ∙ sym (after_one a.block.now at.used inside _);
      read = λ p x.
          read_on p a.block.now a.out.now at.used inside (hand at.count at.word) at.wrote s.result _ at.out _ (omega (arith, i.out_long))
          (i.read p x) (holds_at p (take at.used a.block.now) (hand a.held a.word.now) (hand at.count at.word) i.held_is (omega (arith, long)) x) s.ensures;
    }

pub returns : goal.returns
returns c =
    let at = c.loop-used in
    let i = at.invariant in
    let a = c.args in
    let all : at.used ≡ length a.block.now = omega arith in
    subst
    (λ (n : ℕ). Fed a.block.now (hand a.held a.word.now) a.out.now (record { used = n; wrote = at.wrote; held = at.count }) at.word at.out) all
    (record { within = i.passed; fits = i.fits; early = λ l. absurd (omega arith); held = i.held_is; read = i.read })
