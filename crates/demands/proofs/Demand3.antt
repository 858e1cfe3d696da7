-- Demand 3 holds of every trimmed word and limit under each edition, and its bound is reached.
use Prim.Native.Nat.{ℕ, zero, suc, ◌-◌, ◌*◌, ◌≤◌}
use mathlib.Core.Path.{◌≡◌, refl, ap, ◌∙◌}
use mathlib.Core.List.{List}
use native.Mathlib.Omega.{arith}
use lib.ListN.{length}
use Rattle.walk.specs.Walk.{to_primary, to_alternate}
use Rattle.walk.specs.Word.{rule_of, visits_of}
use Rattle.walk_laws.specs.Reach.{xz, kxz}
use Rattle.walk_laws.specs.Fewest.{Fewest}
use Rattle.walk_laws.proofs.Limit.{fewest, fewest_one}
use Rattle.walk_laws.proofs.Reach.{length_xz, reached}
use Rattle.terms.specs.declared.Edition.{Edition}
use Rattle.trimming.specs.Trim.{keep, trim_end, trimmed}
use Rattle.ascii.specs.High.{first_high}
use Rattle.terms.specs.Limits.{word_limit}
use Rattle.encoder.specs.Encode.{primary_of, alternate_of, visits_under}
use Rattle.trimming.proofs.Trim.{keep_any}
use Rattle.encoder.proofs.Codes.{cut_at}
use Rattle.std.specs.Prelude.{Some}
use Rattle.demands.specs.Demand3.{Unlimited, Limited, Reaches}
use Rattle.walk_laws.proofs.Bound as bound

pub code_unlimited : (ed : Edition) (t : List ℕ) → Unlimited ed t
unfolding primary_of alternate_of
code_unlimited ed t =
    record {
      primary = refl;
      alternate = refl;
      visits = refl;
      primary_bound = bound.primary_bound ed t;
      alternate_bound = bound.alternate_bound ed t;
    }

pub code_limited : (ed : Edition) (n : ℕ) (t : List ℕ) → Limited ed n t
unfolding primary_of alternate_of
code_limited ed n t =
    record {
      primary = (cut_at ed t n).primary;
      alternate = (cut_at ed t n).alternate;
      visits = fewest (to_primary (rule_of ed t)) (to_alternate (rule_of ed t)) n (visits_of ed t);
    }

-- there is one such number of visits
pub code_limited_one : (ed : Edition) (n k : ℕ) (t : List ℕ) → Fewest (to_primary (rule_of ed t)) (to_alternate (rule_of ed t)) (visits_of ed t) n k → k ≡ visits_under ed (Some n) t
code_limited_one ed n k t f = fewest_one (to_primary (rule_of ed t)) (to_alternate (rule_of ed t)) (visits_of ed t) n k (visits_under ed (Some n) t) f (code_limited ed n t).visits

-- K, X, Z, X, Z, .. is ASCII, and trimmed
xz_trimmed : (n : ℕ) → trim_end (xz n) ≡ xz n
xz_trimmed zero = refl
xz_trimmed (suc zero) = refl
xz_trimmed (suc (suc n)) = ap (λ (w : List ℕ). keep 88 (keep 90 w)) (xz_trimmed n) ∙ ap (λ (w : List ℕ). keep 88 w) (keep_any 90 (xz n) refl)

kxz_trimmed : (n : ℕ) → trimmed (kxz n) ≡ kxz n
unfolding trimmed
kxz_trimmed n = ap (λ (w : List ℕ). keep 75 w) (xz_trimmed n) ∙ keep_any 75 (xz n) refl

xz_ascii : (n : ℕ) → first_high (xz n) ≡ length (xz n)
xz_ascii zero = refl
xz_ascii (suc zero) = refl
xz_ascii (suc (suc n)) = ap (λ (k : ℕ). suc (suc k)) (xz_ascii n)

pub code_reaches : (ed : Edition) (t : ℕ) → 1 ≤ t → t ≤ word_limit → (w : List ℕ) × Reaches ed t w
unfolding alternate_of
code_reaches ed zero l h = absurd (omega arith)
code_reaches ed (suc n) l h = (
  kxz n,
  record {
    fits = omega (arith, length_xz n);
    ascii = ap suc (xz_ascii n);
    long = ap length (kxz_trimmed n) ∙ ap suc (length_xz n);
    reached = rw (kxz_trimmed n) (reached ed n ∙ ap (λ (k : ℕ). 2 * suc k - 1) (length_xz n));
  },
)
