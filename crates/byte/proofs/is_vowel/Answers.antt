-- `byte::is_vowel` meets its contract: antt computes over the 256 bytes that no vowel stands off the row, and that in it the mask is right.
use mathlib.Core.Path.{refl, ap}
use mathlib.Core.Bool.{false, not}
use native.Mathlib.Omega.{arith}
use borrow.Author.Tests.{eq-eqb, ne_eqb}
use lib.Bits.{mask_lt}
use Rattle.byte.specs.Vowel.{vowel}
use Rattle.basics.proofs.Computed.{alike_where}
use Rattle.byte.proofs.Mask.{in_row, off_row, has_letter}
use Rattle.byte.proofs.is_vowel.Goals as goal

pub returns-then-b-ne64 : goal.returns-then-b-ne64
unfolding vowel
returns-then-b-ne64 c =
    alike_where (off_row _ _) (λ j. false) vowel 256 _ c.ranges.b.fits (ap not (ne_eqb _ _ c.if-b-ne64.true)) refl

pub overflow_cast-result : goal.overflow_cast-result
unfolding vowel
overflow_cast-result c = omega (arith, mask_lt c.args.b 5)

pub overflow_shr-result : goal.overflow_shr-result
unfolding vowel
overflow_shr-result c = omega (arith, mask_lt c.args.b 5)

pub returns : goal.returns
unfolding vowel
returns c =
    alike_where (in_row _ _) (has_letter _) vowel 256 _ c.ranges.b.fits (eq-eqb _ _ c.if-b-ne64.false) refl
