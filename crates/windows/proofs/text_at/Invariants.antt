-- `windows::text_at` meets its contract. The loop's invariant: the texts that are left, so many being passed, give the answer.
use Prim.Native.Nat.{◌+◌}
use mathlib.Core.Path.{◌≡◌}
use Rattle.std.specs.Iterator.Adapters.{enumerate_source, enumerate_count}
use Rattle.std.specs.Slice.Iter.{chunks_exact_rest, chunks_exact_size}
use Rattle.byte.specs.Text.{upper}
use Rattle.windows.specs.Window.{text_at, texts}
use Rattle.windows.proofs.Facts.{Left}
use Rattle.windows.proofs.text_at.Given as goal

abbrev pub invariant-loop-passed : goal.invariant-loop-passed
invariant-loop-passed l =
    let texts_left = enumerate_source l.passed-iterator in
    (chunks_exact_size texts_left ≡ l.width)
    × Left (upper l.w) l.at l.width (chunks_exact_rest texts_left) (enumerate_count l.passed-iterator + 1) (text_at (upper l.w) l.at l.width (texts l.width l.list))
