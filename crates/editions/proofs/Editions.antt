-- A call that names its edition by a number: 7 exactly where the number is no edition, and else what `encode` promises under that
-- edition.
use Prim.Native.Nat.{ℕ}
use mathlib.Core.Path.{◌≡◌, refl, sym, ap, ◌∙◌}
use mathlib.Core.Bool.{Bool, true, false, false≢true, cond}
use mathlib.Core.List.{List}
use mathlib.Core.Logic.{◌↔◌}
use native.Mathlib.Omega.{arith}
use lib.ListN.{length}
use Rattle.terms.specs.Limits.{Limit}
use Rattle.std.specs.Prelude.{Ok, Err}
use Rattle.answers.specs.Numbers.{Reply}
use Rattle.answers.specs.declared.Refusal.TheVariants.{TooLong, NotAscii, PrimaryShort, AlternateShort}
use Rattle.encoder.specs.Encode.{Answer, answer_of, left_by, Encoded}
use Rattle.terms.specs.Editions.{is_unknown, edition_of}
use Rattle.editions.specs.Editions.{replied, reply_number, EncodedIn}
use Rattle.answers.specs.declared.CallRefusal.TheVariants as call
use Rattle.encoder.proofs.Given.{answer_given}

-- a reply leaves a buffer as its answer does
left_replied : (r : Answer) (code buf : List ℕ) → left_by (replied r) code buf ≡ left_by r code buf
left_replied (Ok c) code buf = refl
left_replied (Err r) code buf = refl

small : (r : Answer) → reply_number (replied r) ≡ 7 → ⊥
small (Ok c) e = omega arith
small (Err TooLong) e = omega arith
small (Err (NotAscii at)) e = omega arith
small (Err PrimaryShort) e = omega arith
small (Err AlternateShort) e = omega arith

module _ {n : ℕ} {l : Limit} {w p a : List ℕ} {r : Reply} {p' a' : List ℕ} (e : EncodedIn n l w p a r p' a') where
  -- 7 exactly where the number is no edition, whatever the word and the buffers are
  pub edition_seven : (reply_number r ≡ 7) ↔ (is_unknown n ≡ true)
  edition_seven = by (is_unknown n) e.answer
    where
      by : (t : Bool) → r ≡ cond t (Err call.UnknownEdition) (replied (answer_of (edition_of n) l w (length p) (length a))) → (reply_number r ≡ 7) ↔ (t ≡ true)
      by true q = (λ h. refl, λ h. ap reply_number q)
      by false q = (λ h. absurd (small (answer_of (edition_of n) l w (length p) (length a)) (sym (ap reply_number q) ∙ h)), λ h. absurd (false≢true h))

-- an answer is that of `encode` under the edition, with all that follows from it
pub edition_encoded : {n : ℕ} {l : Limit} {w p a : List ℕ} {r : Answer} {p' a' : List ℕ} → is_unknown n ≡ false → EncodedIn n l w p a (replied r) p' a' → Encoded (edition_of n) l w p a r p' a'
edition_encoded {n} {l} {w} {p} {a} {r} f e =
    let q : r ≡ answer_of (edition_of n) l w (length p) (length a) = one r (answer_of (edition_of n) l w (length p) (length a)) (e.answer ∙ rw f) in
    record { given = rw q (answer_given (edition_of n) l w (length p) (length a)); answer = q; primary = e.primary ∙ left_replied r _ _; alternate = e.alternate ∙ left_replied r _ _ }
  where
    one : (x y : Answer) → replied x ≡ replied y → x ≡ y
    one (Ok x) (Ok y) h = cc
    one (Ok x) (Err y) h = cc
    one (Err x) (Ok y) h = cc
    one (Err x) (Err y) h = cc
