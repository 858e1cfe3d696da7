-- The walk under `cap_of` gives the codes and the visits of the definition, and they fit what is needed.
use Prim.Native.Nat.{ℕ, ◌-◌, ◌*◌, ◌≤◌, ◌<◌, min}
use mathlib.Core.Path.{◌≡◌, refl, ◌∙◌}
use mathlib.Core.List.{List, []}
use mathlib.Core.Bool.{Bool, true, false}
use native.Mathlib.Omega.{arith}
use borrow.Author.Tests.{ltb-true, ltb-false}
use lib.Dec.{ltb}
use lib.ListN.{length, take, length-take}
use lib.Seq.{take_all}
use Rattle.walk.specs.Walk.{to_primary, to_alternate}
use Rattle.walk.specs.Word.{rule_of, visits_of, whole_of, limited_of}
use Rattle.word.specs.Start.{start_of}
use Rattle.walk_laws.proofs.Limit.{Cut, cut, no_limit}
use Rattle.walk_laws.proofs.Bound.{primary_bound, alternate_bound}
use Rattle.terms.specs.declared.Edition.{Edition}
use Rattle.terms.specs.Limits.{Limit}
use Rattle.std.specs.Prelude.{Some, None}
use Rattle.needs.specs.Needs.{need_of, cap_of}
use Rattle.encoder.specs.Encode.{primary_of, alternate_of, visits_under}

-- what is cut from a code of at most 2t - 1 bytes: under 2t all of it, and under any limit no more than is needed
uncut : (t : ℕ) (code whole : List ℕ) → code ≡ take (2 * t) whole → length whole ≤ 2 * t - 1 → code ≡ whole
uncut t code whole e h = e ∙ take_all (2 * t) whole (omega arith)

fits : (n t : ℕ) (code whole : List ℕ) → code ≡ take n whole → length whole ≤ 2 * t - 1 → length code ≤ min n (2 * t - 1)
fits n t code whole e h = rw e (omega (arith, length-take n whole))

module _ (ed : Edition) (w : List ℕ) where
  -- under a limit each code is the first bytes of the one with none
  pub cut_at : (n : ℕ) → Cut (limited_of ed n w) n n (whole_of ed w).primary (whole_of ed w).alternate
  cut_at n = cut (to_primary (rule_of ed w)) (to_alternate (rule_of ed w)) n n (visits_of ed w)

  pub primary_capped : (l : Limit) → (limited_of ed (cap_of l (length w)) w).primary ≡ primary_of ed l w
  unfolding primary_of
  primary_capped None = uncut (length w) _ _ (cut_at (2 * length w)).primary (primary_bound ed w)
  primary_capped (Some n) = refl

  pub alternate_capped : (l : Limit) → (limited_of ed (cap_of l (length w)) w).alternate ≡ alternate_of ed l w
  unfolding alternate_of
  alternate_capped None = uncut (length w) _ _ (cut_at (2 * length w)).alternate (alternate_bound ed w)
  alternate_capped (Some n) = refl

  pub primary_fits : (l : Limit) → length (primary_of ed l w) ≤ need_of l (length w)
  unfolding primary_of
  primary_fits None = primary_bound ed w
  primary_fits (Some n) = fits n (length w) _ _ (cut_at n).primary (primary_bound ed w)

  pub alternate_fits : (l : Limit) → length (alternate_of ed l w) ≤ need_of l (length w)
  unfolding alternate_of
  alternate_fits None = alternate_bound ed w
  alternate_fits (Some n) = fits n (length w) _ _ (cut_at n).alternate (alternate_bound ed w)

-- an empty word has no visits
no_visits : (ed : Edition) (w : List ℕ) → length w ≡ 0 → visits_of ed w ≡ []
unfolding visits_of
no_visits ed w e = let z : length w - start_of w ≡ 0 = omega arith in rw z

pub visits_capped : (ed : Edition) (w : List ℕ) (l : Limit) → (limited_of ed (cap_of l (length w)) w).visits ≡ visits_under ed l w
visits_capped ed w (Some n) = refl
visits_capped ed w None = go (ltb 0 (length w)) refl
  where
    go : (q : Bool) → ltb 0 (length w) ≡ q → (limited_of ed (2 * length w) w).visits ≡ length (visits_of ed w)
    go true t =
        let h : 0 < length w = ltb-true _ _ t in
        no_limit (to_primary (rule_of ed w)) (to_alternate (rule_of ed w)) (2 * length w) (2 * length w) (visits_of ed w) (omega (arith, primary_bound ed w))
    go false t =
        let h : length w ≤ 0 = ltb-false _ _ t in
        rw (no_visits ed w (omega arith))
