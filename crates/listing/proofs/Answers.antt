-- The listing's answers: each refusal exactly when, and what an answer of the encoder means for the listing.
use Prim.Native.Nat.{ℕ, ◌/◌, ◌*◌, ◌-◌, ◌≤◌, ◌<◌}
use mathlib.Core.Path.{◌≡◌, refl, sym, ap, subst, ◌∙◌}
use mathlib.Core.Bool.{Bool, true, false, false≢true, cond}
use mathlib.Core.List.{List}
use native.Mathlib.Omega.{arith}
use borrow.Author.Tests.{ltb-true, ltb-false, lt-ltb, le-ltb}
use lib.Dec.{ltb}
use lib.ListN.{length, take, length-map}
use lib.Seq.{length-take-le}
use Rattle.terms.specs.Editions.{is_second, is_unknown, edition_of}
use Rattle.terms.specs.declared.Edition.{Edition}
use Rattle.terms.specs.declared.Edition.TheVariants.{E1, E2}
use Rattle.walk.specs.Walk.{filled}
use Rattle.walk.specs.Word.{visits_of}
use Rattle.terms.specs.Limits.{Limit}
use Rattle.std.specs.Prelude.{Ok, Err}
use Rattle.answers.specs.declared.Coded.{Coded}
use Rattle.answers.specs.declared.CallRefusal.{CallRefusal}
use Rattle.answers.specs.declared.Refusal.TheVariants as refusal
use Rattle.answers.specs.declared.CallRefusal.TheVariants as call
use Rattle.trimming.specs.Trim.{trimmed}
use Rattle.ascii.specs.High.{first_high}
use Rattle.terms.specs.Limits.{word_limit}
use Rattle.encoder.specs.Encode.{Answer, visit_count, answer_of, visits_under, Encoded}
use Rattle.editions.specs.Editions.{replied, EncodedIn}
use Rattle.trimming.proofs.Trim.{trimmed_length}
use Rattle.demands.proofs.Demand2.{code_accepted, code_walked}
use Rattle.editions.proofs.Editions.{edition_seven, edition_encoded}
use Rattle.demands.proofs.Room.{never_three, never_four}
use Rattle.rows.specs.Listing.{row_at, listing_of, all_numbers}
use Rattle.rows.proofs.Rows.{visits_within}
use Rattle.listing.specs.declared.Unlisted.TheVariants.{TooLong, NotAscii, UnknownEdition, RoomShort}
use Rattle.listing.specs.Numbers.{Told, unlisted_by}
use Rattle.listing.specs.Table.{Given}
use Rattle.listing.specs.Listing.{in_room, left_in, told_of, room_of, Explained}
use Rattle.row_writer.specs.Written.{edition_if, first_rows}

-- ---- each number exactly when, by its four tests
module _ (n high room visits : ℕ) where
  by_tests : (u : Bool) (q₁ : Bool) → ltb word_limit n ≡ q₁ → (q₂ : Bool) → ltb high n ≡ q₂ → (q₃ : Bool) → ltb room visits ≡ q₃
      → Given u n high room visits (cond u (Err UnknownEdition) (cond q₁ (Err TooLong) (cond q₂ (Err (NotAscii high)) (cond q₃ (Err RoomShort) (Ok visits)))))
  by_tests true q₁ e q₂ f q₃ g = of_unknown
    where
      of_unknown : Given true n high room visits (Err UnknownEdition)
      of_unknown =
          record {
            seven = (λ h. refl, λ h. refl);
            one = (λ h. absurd (omega arith), λ h. absurd (false≢true (sym h.0)));
            two = (λ h. absurd (omega arith), λ h. absurd (false≢true (sym h.0)));
            nine = (λ h. absurd (omega arith), λ h. absurd (false≢true (sym h.0)));
            listed = (λ h. absurd (omega arith), λ h. absurd (false≢true (sym h.0)));
            place = λ h. absurd (omega arith);
            no_place = λ h. refl;
            rows = λ h. absurd (omega arith);
            no_rows = λ h. refl;
          }
  by_tests false true e q₂ f q₃ g =
      let i : word_limit < n = ltb-true _ _ e in
      record {
        seven = (λ h. absurd (omega arith), λ h. absurd (false≢true h));
        one = (λ h. (refl, i), λ h. refl);
        two = (λ h. absurd (omega arith), λ h. absurd (omega arith));
        nine = (λ h. absurd (omega arith), λ h. absurd (omega arith));
        listed = (λ h. absurd (omega arith), λ h. absurd (omega arith));
        place = λ h. absurd (omega arith);
        no_place = λ h. refl;
        rows = λ h. absurd (omega arith);
        no_rows = λ h. refl;
      }
  by_tests false false e true f q₃ g =
      let i : n ≤ word_limit = ltb-false _ _ e in
      let j : high < n = ltb-true _ _ f in
      record {
        seven = (λ h. absurd (omega arith), λ h. absurd (false≢true h));
        one = (λ h. absurd (omega arith), λ h. absurd (omega arith));
        two = (λ h. (refl, i, j), λ h. refl);
        nine = (λ h. absurd (omega arith), λ h. absurd (omega arith));
        listed = (λ h. absurd (omega arith), λ h. absurd (omega arith));
        place = λ h. refl;
        no_place = λ h. absurd (h refl);
        rows = λ h. absurd (omega arith);
        no_rows = λ h. refl;
      }
  by_tests false false e false f true g =
      let i : n ≤ word_limit = ltb-false _ _ e in
      let j : n ≤ high = ltb-false _ _ f in
      let k : room < visits = ltb-true _ _ g in
      record {
        seven = (λ h. absurd (omega arith), λ h. absurd (false≢true h));
        one = (λ h. absurd (omega arith), λ h. absurd (omega arith));
        two = (λ h. absurd (omega arith), λ h. absurd (omega arith));
        nine = (λ h. (refl, i, j, k), λ h. refl);
        listed = (λ h. absurd (omega arith), λ h. absurd (omega arith));
        place = λ h. absurd (omega arith);
        no_place = λ h. refl;
        rows = λ h. absurd (omega arith);
        no_rows = λ h. refl;
      }
  by_tests false false e false f false g =
      let i : n ≤ word_limit = ltb-false _ _ e in
      let j : n ≤ high = ltb-false _ _ f in
      let k : visits ≤ room = ltb-false _ _ g in
      record {
        seven = (λ h. absurd (omega arith), λ h. absurd (false≢true h));
        one = (λ h. absurd (omega arith), λ h. absurd (omega arith));
        two = (λ h. absurd (omega arith), λ h. absurd (omega arith));
        nine = (λ h. absurd (omega arith), λ h. absurd (omega arith));
        listed = (λ h. (refl, i, j, k), λ h. refl);
        place = λ h. absurd (omega arith);
        no_place = λ h. refl;
        rows = λ h. refl;
        no_rows = λ h. absurd (omega arith);
      }

-- ---- the answer and the room
module _ (n : ℕ) (l : Limit) (w room : List ℕ) where
  abbrev visits : ℕ
  visits = visits_under (edition_of n) l (trimmed w)

  explained : {r : Told} {room' : List ℕ} → r ≡ told_of n l w (length room) → room' ≡ room_of n l w room → Explained n l w room r room'
  explained e f =
      record {
        given =
            subst (λ (r : Told). Given (is_unknown n) (length w) (first_high w) (length room / 7) visits r) (sym e)
            (by_tests (length w) (first_high w) (length room / 7) visits (is_unknown n) _ refl _ refl _ refl);
        answer = e;
        rows = f;
      }

  pub unknown : is_unknown n ≡ true → Explained n l w room (Err UnknownEdition) room
  unknown e = explained (rw e) (rw e)

  pub too_long_lem : is_unknown n ≡ false → word_limit < length w → Explained n l w room (Err TooLong) room
  too_long_lem e h = explained (rw (e, lt-ltb word_limit (length w) h)) (rw (e, lt-ltb word_limit (length w) h))

  pub not_ascii_lem : is_unknown n ≡ false → length w ≤ word_limit → first_high w < length w → (at : ℕ) → at ≡ first_high w → Explained n l w room (Err (NotAscii at)) room
  not_ascii_lem e h k at f =
      explained (rw (e, le-ltb word_limit (length w) h, lt-ltb (first_high w) (length w) k, f)) (rw (e, le-ltb word_limit (length w) h, lt-ltb (first_high w) (length w) k))

  pub listed : is_unknown n ≡ false → length w ≤ word_limit → length w ≤ first_high w → {r : Told} {room' : List ℕ} → r ≡ in_room (length room) visits
      → room' ≡ left_in (listing_of (edition_of n) l (trimmed w)) room → Explained n l w room r room'
  listed e h k f g =
      explained (rw (e, le-ltb word_limit (length w) h, le-ltb (first_high w) (length w) k) f) (rw (e, le-ltb word_limit (length w) h, le-ltb (first_high w) (length w) k) g)

-- ---- the rows of the first visits
first_many : (ed : Edition) (k : ℕ) (t : List ℕ) → k ≤ length (visits_of ed t) → length (first_rows ed k t) ≡ k
unfolding first_rows
first_many ed k t h = length-map (take k (visits_of ed t)) (row_at ed t) ∙ length-take-le k (visits_of ed t) h

module _ (ed : Edition) (k : ℕ) (t room : List ℕ) (h : k ≤ length (visits_of ed t)) where
  pub short : length room / 7 < k → (Err RoomShort ≡ in_room (length room) k) × (room ≡ left_in (first_rows ed k t) room)
  short l = (rw (lt-ltb (length room / 7) k l), rw (first_many ed k t h, lt-ltb (length room / 7) k l))

  pub enough : k ≤ length room / 7 → {room' : List ℕ} → room' ≡ filled (all_numbers (first_rows ed k t)) room → (Ok k ≡ in_room (length room) k) × (room' ≡ left_in (first_rows ed k t) room)
  enough l e = (rw (le-ltb (length room / 7) k l), rw (first_many ed k t h, le-ltb (length room / 7) k l) e)

-- ---- what the encoder's answer says
edition_back : (e : Edition) → edition_if (is_second e) ≡ e
edition_back E1 = refl
edition_back E2 = refl

-- a call that is known was made with a number that names an edition
asked_known : {n : ℕ} {l : Limit} {w p a p' a' : List ℕ} (r : Answer) → EncodedIn n l w p a (replied r) p' a' → is_unknown n ≡ false
asked_known {n} {l} {w} {p} {a} r e = by r (is_unknown n) e.answer
  where
    by : (r : Answer) (t : Bool) → replied r ≡ cond t (Err call.UnknownEdition) (replied (answer_of (edition_of n) l w (length p) (length a))) → t ≡ false
    by (Ok c) true h = cc
    by (Err c) true h = cc
    by r false h = refl

module _ {n : ℕ} {l : Limit} {w p a p' a' room : List ℕ} (i : 2 * word_limit - 1 ≤ length p) (j : 2 * word_limit - 1 ≤ length a) where
  -- a refusal of the encoder is the listing's, since no buffer is too short
  pub refused : (call : CallRefusal) → EncodedIn n l w p a (Err call) p' a' → Explained n l w room (Err (unlisted_by call)) room
  refused call.UnknownEdition e = unknown n l w room ((edition_seven e).0 refl)
  refused (call.Refused refusal.TooLong) e =
      let k = asked_known (Err refusal.TooLong) e in too_long_lem n l w room k ((edition_encoded {r = Err refusal.TooLong} k e).given.one.0 refl)
  refused (call.Refused (refusal.NotAscii at)) e =
      let k = asked_known (Err (refusal.NotAscii at)) e in
      let g = (edition_encoded {r = Err (refusal.NotAscii at)} k e).given in
      let h = g.two.0 refl in
      not_ascii_lem n l w room k h.0 h.1 at (g.place refl)
  refused (call.Refused refusal.PrimaryShort) e =
      absurd (never_three (edition_encoded {r = Err refusal.PrimaryShort} (asked_known (Err refusal.PrimaryShort) e) e) i j refl)
  refused (call.Refused refusal.AlternateShort) e =
      absurd (never_four (edition_encoded {r = Err refusal.AlternateShort} (asked_known (Err refusal.AlternateShort) e) e) i j refl)

-- a code-accepted word, and its visits
module _ {n : ℕ} {l : Limit} {w p a p' a' : List ℕ} {x : Coded} (e : EncodedIn n l w p a (Ok x) p' a') where
  pub listed_known : is_unknown n ≡ false
  listed_known = asked_known (Ok x) e

  encoded : Encoded (edition_of n) l w p a (Ok x) p' a'
  encoded = edition_encoded listed_known e

  pub answered_fits : (length w ≤ word_limit) × (length w ≤ first_high w)
  answered_fits = let g = encoded.given.accepted.0 refl in (g.0, g.1)

  pub answered_visits : x.visits ≡ visits_under (edition_of n) l (trimmed w)
  answered_visits = ap visit_count (code_walked (edition_of n) (code_accepted encoded refl) encoded).answer

  -- the rows of its first visits, by the edition that the test tells, are its listing
  module _ (second : Bool) (ed : Edition) (s : second ≡ is_second ed) (d : ed ≡ edition_of n) (t : List ℕ) (g : t ≡ trimmed w) where
    edition_is : edition_if second ≡ edition_of n
    edition_is = ap edition_if s ∙ edition_back ed ∙ d

    pub asks_few : (length t ≤ word_limit) × (x.visits ≤ length (visits_of (edition_if second) t))
    asks_few = rw (g, edition_is, answered_visits) (omega (arith, trimmed_length w, answered_fits), visits_within (edition_of n) l (trimmed w))

    pub rows_are : first_rows (edition_if second) x.visits t ≡ listing_of (edition_of n) l (trimmed w)
    unfolding first_rows listing_of
    rows_are = rw (g, edition_is, answered_visits)
