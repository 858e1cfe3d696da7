-- The rows of a word are the visits of its walk under the limit, each told by its case, and their gains, joined and clipped, are its
-- codes.
use Prim.Native.Nat.{ℕ, zero, suc, ◌+◌, ◌-◌, ◌≤◌, ◌<◌}
use mathlib.Core.Path.{◌≡◌, refl, sym, ap, ◌∙◌}
use mathlib.Core.Bool.{Bool, true, false}
use mathlib.Core.List.{List, [], ◌∷◌, ◌++◌, map, append_assoc}
use native.Mathlib.Omega.{arith}
use borrow.Author.Tests.{ltb-true, ltb-false}
use lib.Dec.{ltb}
use lib.ListN.{length, get_or, take, drop, take-append-drop, length-map, get_or-map}
use lib.Seq.{take_all, length-take-le, take-append-le, get_or-take}
use Rattle.byte.specs.Text.{upper}
use Rattle.terms.specs.declared.Edition.{Edition}
use Rattle.outcome.specs.declared.Visit.{Visit}
use Rattle.walk.specs.Walk.{places, joined, to_primary, to_alternate}
use Rattle.word.specs.Start.{start_of}
use Rattle.walk.specs.Word.{rule_of, visits_of}
use Rattle.terms.specs.Limits.{Limit}
use Rattle.std.specs.Prelude.{Some, None}
use Rattle.terms.specs.Limits.{clip}
use Rattle.encoder.specs.Encode.{primary_of, alternate_of, visits_under}
use Rattle.demands.proofs.Demand3.{code_unlimited, code_limited}
use Rattle.row.specs.Numbers.{Row, gained}
use Rattle.rows.specs.Listing.{mode_of, row_at, places_under, listing_of}
use Rattle.rows.specs.Right.{Right, RightRows}
use Rattle.rows.proofs.Speaks.{says, spoken_text}
use Rattle.rows.proofs.Gains.{primary_gains_lem, alternate_gains_lem}

-- ---- the places
-- each place that is visited stands in the word
placed : (v : ℕ → Visit) (at skip left i : ℕ) → i < length (places v at skip left) → get_or (places v at skip left) i 0 < at + left
placed v at skip zero i h = absurd (omega arith)
placed v at zero (suc left) zero h = omega arith
placed v at zero (suc left) (suc i) h = omega (arith, placed v (suc at) (v at).over left i (omega arith))
placed v at (suc skip) (suc left) i h = omega (arith, placed v (suc at) skip left i h)

none_placed : (v : ℕ → Visit) (at left i : ℕ) → left ≡ 0 → i < length (places v at 0 left) → ⊥
none_placed v at zero i e h = omega arith
none_placed v at (suc left) i e h = omega arith

visited_inside : (ed : Edition) (t : List ℕ) (i : ℕ) → i < length (visits_of ed t) → get_or (visits_of ed t) i 0 < length t
unfolding visits_of
visited_inside ed t i h = by (ltb (start_of t) (length t)) refl
  where
    by : (b : Bool) → ltb (start_of t) (length t) ≡ b → get_or (places (rule_of ed t) (start_of t) 0 (length t - start_of t)) i 0 < length t
    by true e = omega (arith, placed (rule_of ed t) (start_of t) 0 (length t - start_of t) i h, ltb-true (start_of t) (length t) e)
    by false e = absurd (none_placed (rule_of ed t) (start_of t) (length t - start_of t) i (omega (arith, ltb-false (start_of t) (length t) e)) h)

-- there are at most as many as bytes
places_few : (v : ℕ → Visit) (at skip left : ℕ) → length (places v at skip left) ≤ left
places_few v at skip zero = omega arith
places_few v at zero (suc left) = omega (arith, places_few v (suc at) (v at).over left)
places_few v at (suc skip) (suc left) = omega (arith, places_few v (suc at) skip left)

visits_few : (ed : Edition) (t : List ℕ) → length (visits_of ed t) ≤ length t
unfolding visits_of
visits_few ed t = omega (arith, places_few (rule_of ed t) (start_of t) 0 (length t - start_of t))

-- no more are visited under a limit
pub visits_within : (ed : Edition) (l : Limit) (t : List ℕ) → visits_under ed l t ≤ length (visits_of ed t)
visits_within ed None t = omega (arith, (code_unlimited ed t).visits)
visits_within ed (Some n) t = (code_limited ed n t).visits.within

-- ---- the rows
places_told : (ed : Edition) (t ps : List ℕ) → map (λ (r : Row). r.place) (map (row_at ed t) ps) ≡ ps
places_told ed t [] = refl
places_told ed t (p ∷ ps) = ap (λ (l : List ℕ). p ∷ l) (places_told ed t ps)

row_right : (ed : Edition) (t : List ℕ) (p : ℕ) → p < length t → Right ed t (row_at ed t p)
row_right ed t p h =
    let s = says (upper t) p (mode_of ed t) in
    record {
      inside = h;
      letter = refl;
      case = s.case;
      text = spoken_text (upper t) p (mode_of ed t);
      primary = ap (λ (v : Visit). gained v.primary) s.visit;
      alternate = ap (λ (v : Visit). gained v.alternate) s.visit;
      over = ap (λ (v : Visit). v.over) s.visit;
    }

-- ---- the codes
joined_append : (g : ℕ → List ℕ) (ps qs : List ℕ) → joined g (ps ++ qs) ≡ joined g ps ++ joined g qs
joined_append g [] qs = refl
joined_append g (p ∷ ps) qs = rw (joined_append g ps qs) (sym (append_assoc (g p) (joined g ps) (joined g qs)))

-- the first visits have the code's first bytes where they are all, or add as many
joined_enough : (g : ℕ → List ℕ) (ps : List ℕ) (n k : ℕ) → (k < length ps → n ≤ length (joined g (take k ps))) → take n (joined g (take k ps)) ≡ take n (joined g ps)
joined_enough g ps n k h = by (ltb k (length ps)) refl
  where
    by : (b : Bool) → ltb k (length ps) ≡ b → take n (joined g (take k ps)) ≡ take n (joined g ps)
    by true e =
        let l = h (ltb-true k (length ps) e) in
        sym
        (ap (λ (qs : List ℕ). take n (joined g qs)) (sym (take-append-drop k ps))
        ∙ ap (λ (c : List ℕ). take n c) (joined_append g (take k ps) (drop k ps))
        ∙ take-append-le n (joined g (take k ps)) (joined g (drop k ps)) l)
    by false e = ap (λ (qs : List ℕ). take n (joined g qs)) (take_all k ps (ltb-false k (length ps) e))

module _ (ed : Edition) (t : List ℕ) where
  primary_joined : (l : Limit) → clip l (joined (to_primary (rule_of ed t)) (places_under ed l t)) ≡ primary_of ed l t
  primary_joined None = ap (joined (to_primary (rule_of ed t))) (take_all (visits_under ed None t) (visits_of ed t) (omega (arith, (code_unlimited ed t).visits))) ∙ sym (code_unlimited ed t).primary
  primary_joined (Some n) =
      joined_enough (to_primary (rule_of ed t)) (visits_of ed t) n (visits_under ed (Some n) t) (λ h. ((code_limited ed n t).visits.full_or_all h).primary)
      ∙ ap (λ (c : List ℕ). take n c) (sym (code_unlimited ed t).primary) ∙ sym (code_limited ed n t).primary

  alternate_joined : (l : Limit) → clip l (joined (to_alternate (rule_of ed t)) (places_under ed l t)) ≡ alternate_of ed l t
  alternate_joined None = ap (joined (to_alternate (rule_of ed t))) (take_all (visits_under ed None t) (visits_of ed t) (omega (arith, (code_unlimited ed t).visits))) ∙ sym (code_unlimited ed t).alternate
  alternate_joined (Some n) =
      joined_enough (to_alternate (rule_of ed t)) (visits_of ed t) n (visits_under ed (Some n) t) (λ h. ((code_limited ed n t).visits.full_or_all h).alternate)
      ∙ ap (λ (c : List ℕ). take n c) (sym (code_unlimited ed t).alternate) ∙ sym (code_limited ed n t).alternate

  pub listing_many : (l : Limit) → length (listing_of ed l t) ≡ visits_under ed l t
  unfolding listing_of
  listing_many l = length-map (places_under ed l t) (row_at ed t) ∙ length-take-le (visits_under ed l t) (visits_of ed t) (visits_within ed l t)

  -- so room for a row a byte is never too short
  pub listing_few : (l : Limit) → length (listing_of ed l t) ≤ length t
  listing_few l = omega (arith, listing_many l, visits_within ed l t, visits_few ed t)

  pub listing_right : (l : Limit) → RightRows ed l t (listing_of ed l t)
  unfolding listing_of
  listing_right l =
      record {
        many = listing_many l;
        places = places_told ed t (places_under ed l t);
        primary = ap (clip l) (primary_gains_lem ed t (places_under ed l t)) ∙ primary_joined l;
        alternate = ap (clip l) (alternate_gains_lem ed t (places_under ed l t)) ∙ alternate_joined l;
        each = each;
      }
    where
      each : (i : ℕ) → i < length (listing_of ed l t) → Right ed t (get_or (listing_of ed l t) i (row_at ed t 0))
      each i h =
          let k : i < visits_under ed l t = omega (arith, listing_many l) in
          let e : get_or (listing_of ed l t) i (row_at ed t 0) ≡ row_at ed t (get_or (places_under ed l t) i 0) = get_or-map (row_at ed t) (places_under ed l t) i 0 in
          let p : get_or (places_under ed l t) i 0 ≡ get_or (visits_of ed t) i 0 = get_or-take (visits_under ed l t) (visits_of ed t) i 0 k in
          rw (e, p) (row_right ed t (get_or (visits_of ed t) i 0) (visited_inside ed t i (omega (arith, visits_within ed l t))))
