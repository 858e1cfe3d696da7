-- The encoder's answers, from what its tests show.
use Prim.Native.Nat.{ℕ, ◌≤◌, ◌<◌}
use mathlib.Core.Path.{◌≡◌, refl, sym, ap, subst, ◌∙◌}
use mathlib.Core.List.{List}
use mathlib.Core.Bool.{true, false}
use native.Mathlib.Omega.{arith}
use borrow.Author.Tests.{lt-ltb, le-ltb}
use lib.ListN.{length}
use Rattle.tally.specs.declared.Tally.{Tally}
use Rattle.walk.specs.Walk.{tally_of, filled}
use Rattle.walk.specs.Word.{limited_of}
use Rattle.terms.specs.declared.Edition.{Edition}
use Rattle.terms.specs.Limits.{Limit}
use Rattle.std.specs.Prelude.{Ok, Err}
use Rattle.answers.specs.declared.Refusal.TheVariants.{TooLong, NotAscii, PrimaryShort, AlternateShort}
use Rattle.trimming.specs.Trim.{trimmed}
use Rattle.ascii.specs.High.{is_ascii, first_high}
use Rattle.terms.specs.Limits.{word_limit}
use Rattle.encoder.specs.Encode.{Answer, primary_of, alternate_of, visits_under, coded_of, answer_of, left_by, Encoded}
use Rattle.needs.specs.Needs.{need_of, cap_of}
use Rattle.encoder.specs.Table.{Given}
use Rattle.encoder.proofs.Given.{answer_given}
use Rattle.ascii.proofs.High.{ascii_none, ascii_all}
use Rattle.encoder.proofs.Codes.{primary_capped, alternate_capped, visits_capped, primary_fits, alternate_fits}

module _ (ed : Edition) (l : Limit) (w p a : List ℕ) where
  given_for : (r : Answer) → answer_of ed l w (length p) (length a) ≡ r → Given (length w) (first_high w) (length p) (length a) (need_of l (length (trimmed w))) r
  given_for r e =
      subst (λ (q : Answer). Given (length w) (first_high w) (length p) (length a) (need_of l (length (trimmed w))) q) e (answer_given ed l w (length p) (length a))

  -- the buffers are as the answer r leaves them
  settled : (r : Answer) → answer_of ed l w (length p) (length a) ≡ r → Encoded ed l w p a r (left_by r (primary_of ed l (trimmed w)) p) (left_by r (alternate_of ed l (trimmed w)) a)
  settled r e = record { given = given_for r e; answer = sym e; primary = refl; alternate = refl }

  pub too_long_lem : word_limit < length w → Encoded ed l w p a (Err TooLong) p a
  too_long_lem h = settled (Err TooLong) (rw (lt-ltb word_limit (length w) h))

  module _ (fits : length w ≤ word_limit) where
    pub not_ascii_lem : (high : ℕ) → high ≡ first_high w → is_ascii w ≡ false → Encoded ed l w p a (Err (NotAscii high)) p a
    not_ascii_lem high e h = settled (Err (NotAscii high)) (rw (le-ltb word_limit (length w) fits, ascii_none w h, ← e))

    -- `part` is the trimmed word as it is lent, and `need` and `cap` are what that needs
    module _ (ascii : is_ascii w ≡ true) (part : List ℕ) (t : part ≡ trimmed w) (need : ℕ) (n : need ≡ need_of l (length part)) where
      need_is : need ≡ need_of l (length (trimmed w))
      need_is = n ∙ ap (λ (q : List ℕ). need_of l (length q)) t

      pub primary_short : length p < need → Encoded ed l w p a (Err PrimaryShort) p a
      primary_short h =
          settled (Err PrimaryShort) (rw (le-ltb word_limit (length w) fits, ascii_all w ascii, ← need_is, lt-ltb (length p) need h))

      module _ (room : need ≤ length p) where
        pub alternate_short : length a < need → Encoded ed l w p a (Err AlternateShort) p a
        alternate_short h =
            settled (Err AlternateShort)
            (rw (le-ltb word_limit (length w) fits, ascii_all w ascii, ← need_is, le-ltb (length p) need room, lt-ltb (length a) need h))

        module _ (room' : need ≤ length a) (cap : ℕ) (c : cap ≡ cap_of l (length part)) where
          cap_is : cap ≡ cap_of l (length (trimmed w))
          cap_is = c ∙ ap (λ (q : List ℕ). cap_of l (length q)) t

          primary_is : (limited_of ed cap part).primary ≡ primary_of ed l (trimmed w)
          primary_is = rw (cap_is, t) (primary_capped ed (trimmed w) l)

          alternate_is : (limited_of ed cap part).alternate ≡ alternate_of ed l (trimmed w)
          alternate_is = rw (cap_is, t) (alternate_capped ed (trimmed w) l)

          visits_are : (limited_of ed cap part).visits ≡ visits_under ed l (trimmed w)
          visits_are = rw (cap_is, t) (visits_capped ed (trimmed w) l)

          pub has_room : (length (limited_of ed cap part).primary ≤ length p) × (length (limited_of ed cap part).alternate ≤ length a)
          has_room =
              (rw primary_is (omega (arith, need_is, primary_fits ed (trimmed w) l)), rw alternate_is (omega (arith, need_is, alternate_fits ed (trimmed w) l)))

          pub coded : (r : Tally) (p' a' : List ℕ) → r ≡ tally_of (limited_of ed cap part) → p' ≡ filled (limited_of ed cap part).primary p → a' ≡ filled (limited_of ed cap part).alternate a
              → Encoded ed l w p a (Ok (record { primary = r.primary; alternate = r.alternate; visits = r.visits })) p' a'
          coded r p' a' tr tp ta =
              let x : answer_of ed l w (length p) (length a) ≡ Ok (coded_of ed l (trimmed w)) =
              rw (le-ltb word_limit (length w) fits, ascii_all w ascii, ← need_is, le-ltb (length p) need room, le-ltb (length a) need room')
              in
              let y : tally_of (limited_of ed cap part) ≡ record { primary = length (primary_of ed l (trimmed w)); alternate = length (alternate_of ed l (trimmed w)); visits = visits_under ed l (trimmed w) } =
              λ i. record { primary = length (primary_is i); alternate = length (alternate_is i); visits = visits_are i }
              in
              let z : Ok (record { primary = r.primary; alternate = r.alternate; visits = r.visits }) ≡ answer_of ed l w (length p) (length a) =
              ap (λ (q : Tally). Ok (record { primary = q.primary; alternate = q.alternate; visits = q.visits })) (tr ∙ y) ∙ sym x
              in
              record {
                given = given_for _ (sym z);
                answer = z;
                primary = tp ∙ ap (λ (q : List ℕ). filled q p) primary_is;
                alternate = ta ∙ ap (λ (q : List ℕ). filled q a) alternate_is;
              }
