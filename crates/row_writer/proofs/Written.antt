-- Rows on their way into the room: one turn of the loop that writes rows.
use Prim.Native.Nat.{ℕ, zero, suc, ◌+◌, ◌-◌, ◌*◌, ◌≤◌, ◌<◌}
use mathlib.Core.Path.{◌≡◌, refl, sym, ap, ap₂, subst, ◌∙◌}
use mathlib.Core.Bool.{Bool, true, false}
use mathlib.Core.List.{List, ◌++◌, map}
use native.Mathlib.Omega.{arith}
use borrow.Author.Tests.{ltb-true, ltb-false}
use lib.Dec.{ltb}
use lib.ListN.{length, get_or, take}
use lib.Seq.{sets}
use Rattle.byte.specs.Text.{up, upper}
use Rattle.byte.proofs.Case.{get_d_upper}
use Rattle.rules.specs.Cond.{mode}
use Rattle.terms.specs.Editions.{is_second}
use Rattle.rules.specs.Table.{spoken_at}
use Rattle.rules.proofs.Bound.{visit_short}
use Rattle.rules.proofs.Told.{spoken_visit}
use Rattle.terms.specs.declared.Edition.{Edition}
use Rattle.outcome.specs.declared.Spoken.{Spoken}
use Rattle.outcome.specs.declared.Visit.{Visit}
use Rattle.walk.specs.Walk.{places, filled}
use Rattle.word.specs.Mark.{slavo_germanic}
use Rattle.word.specs.Start.{start_of}
use Rattle.walk.specs.Word.{rule_of, visits_of}
use Rattle.walk.proofs.Half.{Half, half_start, half_step, half_end}
use Rattle.walk.proofs.Turn.{next_place}
use Rattle.terms.specs.Limits.{word_limit}
use Rattle.row.specs.Numbers.{row_of, numbers_of, Small}
use Rattle.rows.specs.Listing.{mode_of, row_at, all_numbers}
use Rattle.rows.proofs.Speaks.{case_small, text_small}
use Rattle.row_writer.specs.Written.{edition_if, first_rows}

-- the numbers of the visits from place `at` on, n of them
abbrev to_come : Edition → List ℕ → ℕ → ℕ → List ℕ
to_come ed t at n = all_numbers (map (row_at ed t) (take n (places (rule_of ed t) at 0 (length t - at))))

-- the loop's invariant: k of n rows are written, and the walk stands at place `at`
pub record Going (ed : Edition) (t room₀ room : List ℕ) (n at k : ℕ) : Type 0 where
  pub half : Half (all_numbers (first_rows ed n t)) (to_come ed t at (n - k)) room₀ room (7 * n) (7 * k)
  pub enough : n - k ≤ length (places (rule_of ed t) at 0 (length t - at))
  pub few : k ≤ n

pub going : (ed : Edition) (t room : List ℕ) (n : ℕ) → n ≤ length (visits_of ed t) → Going ed t room room n (start_of t) 0
unfolding first_rows visits_of
going ed t room n h =
    let z : n - 0 ≡ n = omega arith in
    record { half = rw z (half_start (all_numbers (first_rows ed n t)) room (7 * n)); enough = rw z h; few = omega arith }

-- a visit is still to come, so the place is inside the word
none_left : (v : ℕ → Visit) (at left : ℕ) → left ≡ 0 → length (places v at 0 left) ≡ 0
none_left v at zero e = refl
none_left v at (suc left) e = absurd (omega arith)

module _ {ed : Edition} {t room₀ room : List ℕ} {n at k : ℕ} (s : Going ed t room₀ room n at k) (more : k < n) where
  pub inside : at < length t
  inside = by (ltb at (length t)) refl
    where
      by : (b : Bool) → ltb at (length t) ≡ b → at < length t
      by true e = ltb-true at (length t) e
      by false e =
          let l : length t - at ≡ 0 = omega (arith, ltb-false at (length t) e) in
          absurd (omega (arith, s.enough, none_left (rule_of ed t) at (length t - at) l))

  abbrev next : ℕ
  next = at + 1 + (rule_of ed t at).over

  -- the rows still to come are this visit's and those behind it
  onward : to_come ed t at (n - k) ≡ numbers_of (row_at ed t at) ++ to_come ed t next (n - (k + 1))
  unfolding all_numbers
  onward =
      let d : n - k ≡ suc (n - (k + 1)) = omega arith in
      rw (d, next_place (rule_of ed t) at (length t) inside) refl

  enough_behind : n - (k + 1) ≤ length (places (rule_of ed t) next 0 (length t - next))
  enough_behind = omega (arith, s.enough, ap length (next_place (rule_of ed t) at (length t) inside))

  half_here : Half (all_numbers (first_rows ed n t)) (numbers_of (row_at ed t at) ++ to_come ed t next (n - (k + 1))) room₀ room (7 * n) (7 * k)
  half_here = subst (λ (c : List ℕ). Half (all_numbers (first_rows ed n t)) c room₀ room (7 * n) (7 * k)) onward s.half

  -- there is room for the row
  pub room_for : 7 * n ≤ length room₀ → 7 * k + 7 ≤ length room
  room_for room = omega (arith, s.half.long)

  -- the turn: the row is written, and the walk stands behind what the visit passes over
  pub turned : (over : ℕ) → over ≡ (rule_of ed t at).over → (room' : List ℕ) → room' ≡ sets room (7 * k) (numbers_of (row_at ed t at)) → 7 * n ≤ length room₀
      → Going ed t room₀ room' n (at + 1 + over) (k + 1)
  turned over e room' f fits =
      let m : 7 * k + 7 ≡ 7 * (k + 1) = omega arith in
      let g : Going ed t room₀ (sets room (7 * k) (numbers_of (row_at ed t at))) n next (k + 1) =
      record {
        half = rw (← m) (half_step (numbers_of (row_at ed t at)) (to_come ed t next (n - (k + 1))) half_here (room_for fits) (omega arith));
        enough = enough_behind;
        few = omega arith;
      }
      in rw (e, f) g

-- the loop's end
pub all_written : {ed : Edition} {t room₀ room : List ℕ} {n at k : ℕ} → Going ed t room₀ room n at k → n ≤ k → room ≡ filled (all_numbers (first_rows ed n t)) room₀
unfolding all_numbers
all_written {ed} {t} {room₀} {room} {n} {at} {k} s h =
    let z : n - k ≡ 0 = omega (arith, s.few) in
    half_end (subst (λ (c : ℕ). Half (all_numbers (first_rows ed n t)) (to_come ed t at c) room₀ room (7 * n) (7 * k)) z s.half)

-- ---- what the loop's calls give
pub told : (b : Bool) → is_second (edition_if b) ≡ b
told true = refl
told false = refl

module _ (second : Bool) (t : List ℕ) (p : ℕ) (slavo : Bool) (s : Spoken) (marked : slavo ≡ slavo_germanic (upper t)) (said : s ≡ spoken_at (upper t) p (mode slavo second)) where
  abbrev ed : Edition
  ed = edition_if second

  -- the visit is told by the rules of the edition
  spoken_is : s ≡ spoken_at (upper t) p (mode_of ed t)
  spoken_is = said ∙ ap₂ (λ (m n : Bool). spoken_at (upper t) p (mode m n)) marked (sym (told second))

  pub over_is : s.visit.over ≡ (rule_of ed t p).over
  over_is = ap (λ (x : Spoken). x.visit.over) spoken_is ∙ ap (λ (v : Visit). v.over) (spoken_visit (upper t) p (mode_of ed t))

  pub over_few : s.visit.over ≤ 3
  over_few = rw over_is (visit_short (upper t) p (mode_of ed t)).over

  -- what it tells fits the row
  pub fits_row : p < length t → length t ≤ word_limit → Small p s
  fits_row h l =
      rw spoken_is
      (record {
        place_fits = omega arith;
        case_fits = omega (arith, case_small (upper t) p (mode_of ed t));
        text_fits = omega (arith, text_small (upper t) p (mode_of ed t));
        over_fits = rw (spoken_visit (upper t) p (mode_of ed t)) (omega (arith, (visit_short (upper t) p (mode_of ed t)).over));
      })

  -- and the row is the definition's
  pub row_is : (b : ℕ) → b ≡ up (get_or t p 0) → row_of b p s ≡ row_at ed t p
  row_is b e = rw (e ∙ sym (get_d_upper t p), spoken_is) refl
