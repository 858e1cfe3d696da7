-- `lines::answer` meets its contract, since what is stored is the part of the line buffer where the line lies.
use Rattle.std.proofs.Common.{ℕ, List, ◌≤◌, length}
use mathlib.Core.Path.{sym, ap, ◌∙◌}
use native.Mathlib.Omega.{arith}
use lib.ListN.{length-drop, length-take}
use lib.Seq.{sets}
use Rattle.line.specs.declared.Span.{Span}
use Rattle.line.specs.Line.{line_of, Lies}
use Rattle.lines.specs.Feed.{Hand, Holds}
use Rattle.lines.proofs.Hand.{some_held}
use Rattle.lines.proofs.answer.Goals as goal

-- some line is held, so that the span is within the buffer
spanned : {h : Hand} {s : Span} {buf : List ℕ} → ((p : List ℕ) → Holds p h → Lies (line_of p) s buf) → (s.start ≤ s.end) × (s.end ≤ length buf)
spanned {h} e =
    let held = some_held h in
    let l = e held.0 held.1 in
    (l.ordered, l.within)

pub slice_bounds-copy_to-count : goal.slice_bounds-copy_to-count
slice_bounds-copy_to-count c = (spanned c.held_line-span.ensures).0

pub slice_bounds-copy_to-start : goal.slice_bounds-copy_to-start
slice_bounds-copy_to-start c = (spanned c.held_line-span.ensures).0

pub slice_bounds-copy_to-end : goal.slice_bounds-copy_to-end
slice_bounds-copy_to-end c = (spanned c.held_line-span.ensures).1

pub copy_to-requires : goal.copy_to-requires
copy_to-requires c =
    let l = spanned c.held_line-span.ensures in
    simp (length-take, length-drop) (omega (arith, l.1, c.held_line-span.auto.line))

pub overflow_sub-result : goal.overflow_sub-result
overflow_sub-result c = (spanned c.held_line-span.ensures).0

pub returns : goal.returns
returns c =
    let l = spanned c.held_line-span.ensures in
    record {
      short = omega (arith, l.1, c.held_line-span.auto.line);
      long = λ p x.
          let k = c.held_line-span.ensures p x in
          sym (ap length (sym k.bytes) ∙ simp (length-take, length-drop) (omega (arith, l.1)));
      output = λ p x. c.copy_to.ensures ∙ ap (λ (b : List ℕ). sets c.args.out.now c.args.wrote b) (c.held_line-span.ensures p x).bytes;
    }
