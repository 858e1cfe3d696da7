-- Demand 3's bound for any rule that keeps the two laws, and so for ours: at most 2t - 1 bytes, and none for t = 0.
use Prim.Native.Nat.{ℕ, zero, suc, ◌+◌, ◌-◌, ◌*◌, ◌≤◌, min}
use mathlib.Core.List.{List}
use mathlib.Core.Path.{subst}
use native.Mathlib.Omega.{arith}
use native.Mathlib.Nat.{sub-zero}
use lib.ListN.{length, length-append}
use Rattle.byte.specs.Text.{upper}
use Rattle.byte.proofs.Case.{length_upper}
use Rattle.terms.specs.declared.Edition.{Edition}
use Rattle.outcome.specs.declared.Visit.{Visit}
use Rattle.rules.specs.Kept.{AtFront}
use Rattle.rules.proofs.Bound.{visit_short}
use Rattle.rules.proofs.Front.{visit_front}
use Rattle.walk_laws.specs.Keeps.{Keeps}
use Rattle.walk.specs.Walk.{places, joined, to_primary, to_alternate}
use Rattle.walk.specs.Word.{rule_of, visits_of, whole_of}
use Rattle.word.specs.Start.{start_of}

module _ (v : ℕ → Visit) (g : ℕ → List ℕ) (two : (p : ℕ) → length (g p) ≤ 2) where
  -- two bytes for each byte that is not passed over
  twice : (at skip left : ℕ) → length (joined g (places v at skip left)) ≤ 2 * (left - skip)
  twice at skip zero = omega arith
  twice at zero (suc left) =
      omega (arith, two at, twice (suc at) (v at).over left, length-append (g at) (joined g (places v (suc at) (v at).over left)))
  twice at (suc skip) (suc left) = omega (arith, twice (suc at) skip left)

  -- from place 0 on, one less
  from_front : (t : ℕ) → length (g 0) ≤ 1 + min (v 0).over (t - 1) → length (joined g (places v 0 0 t)) ≤ 2 * t - 1
  from_front zero h = omega arith
  from_front (suc t) h =
      omega (arith, twice 1 (v 0).over t, length-append (g 0) (joined g (places v 1 (v 0).over t)))

  bounded : (start t : ℕ) → length (g 0) ≤ 1 + min (v 0).over (t - 1) → length (joined g (places v start 0 (t - start))) ≤ 2 * t - 1
  bounded zero t h = rw (sub-zero t) (from_front t h)
  bounded (suc s) t h = omega (arith, twice (suc s) 0 (t - suc s))

-- any rule that keeps the laws, from any start
module _ (v : ℕ → Visit) (start t : ℕ) (k : Keeps t v) where
  pub any_primary_bound : length (joined (to_primary v) (places v start 0 (t - start))) ≤ 2 * t - 1
  any_primary_bound = bounded v (to_primary v) (λ p. (k.short p).primary) start t k.front.primary

  pub any_alternate_bound : length (joined (to_alternate v) (places v start 0 (t - start))) ≤ 2 * t - 1
  any_alternate_bound = bounded v (to_alternate v) (λ p. (k.short p).alternate) start t k.front.alternate

-- the letter rules keep them, in each edition
pub rule_keeps : (ed : Edition) (w : List ℕ) → Keeps (length w) (rule_of ed w)
rule_keeps ed w =
    record {
      short = λ p. visit_short (upper w) p _;
      front = subst (λ (n : ℕ). AtFront n (rule_of ed w 0)) (length_upper w) (visit_front (upper w) _);
    }

pub primary_bound : (ed : Edition) (w : List ℕ) → length (whole_of ed w).primary ≤ 2 * length w - 1
unfolding visits_of
primary_bound ed w = any_primary_bound (rule_of ed w) (start_of w) (length w) (rule_keeps ed w)

pub alternate_bound : (ed : Edition) (w : List ℕ) → length (whole_of ed w).alternate ≤ 2 * length w - 1
unfolding visits_of
alternate_bound ed w = any_alternate_bound (rule_of ed w) (start_of w) (length w) (rule_keeps ed w)
