-- The line of a word, from what the encoder answers under its default limit.
use Prim.Native.Nat.{ℕ, ◌+◌, ◌≤◌, ◌<◌}
use mathlib.Core.Path.{◌≡◌, refl, sym, ap, subst, ◌∙◌}
use mathlib.Core.List.{List, [], ◌∷◌, ◌++◌}
use native.Mathlib.Omega.{arith}
use borrow.Author.Tests.{lt-ltb, le-ltb}
use lib.ListN.{length}
use Rattle.terms.specs.declared.Edition.TheVariants.{E1}
use Rattle.encoder.specs.declared.Encoder.{Encoder}
use Rattle.std.specs.Prelude.{Some, Ok}
use Rattle.answers.specs.declared.Coded.{Coded}
use Rattle.answers.specs.declared.Refusal.{Refusal}
use Rattle.answers.specs.declared.Refusal.TheVariants.{TooLong, NotAscii, PrimaryShort, AlternateShort}
use Rattle.answers.specs.Answers.{number_of_refusal}
use Rattle.trimming.specs.Trim.{trimmed}
use Rattle.ascii.specs.High.{first_high}
use Rattle.terms.specs.Limits.{word_limit}
use Rattle.encoder.specs.Encode.{Answer, default_limit, encoder_of, number_of, primary_length, alternate_length, answer_of, primary_of, alternate_of, filled, Encoded}
use Rattle.needs.specs.Needs.{need_of}
use Rattle.demands.specs.Demand2.{Taken, Walked}
use Rattle.ascii.proofs.High.{no_high}
use Rattle.encoder.proofs.Codes.{primary_fits, alternate_fits}
use Rattle.demands.proofs.Demand2.{code_accepted, code_walked}
use Rattle.line.specs.Line.{line_by, line_of}

-- the two codes of a word under edition 1 and the default limit
abbrev pub primary : List ℕ → List ℕ
primary w = primary_of E1 (Some default_limit) (trimmed w)

abbrev pub alternate : List ℕ → List ℕ
alternate w = alternate_of E1 (Some default_limit) (trimmed w)

pub primary_short : (w : List ℕ) → length (primary w) ≤ default_limit
primary_short w = omega (arith, primary_fits E1 (trimmed w) (Some default_limit))

pub alternate_short : (w : List ℕ) → length (alternate w) ≤ default_limit
alternate_short w = omega (arith, alternate_fits E1 (trimmed w) (Some default_limit))

-- more room than the limit changes no answer
enough : (w : List ℕ) (m n : ℕ) → default_limit ≤ m → default_limit ≤ n
    → answer_of E1 (Some default_limit) w m n ≡ answer_of E1 (Some default_limit) w default_limit default_limit
enough w m n h k =
    let need : ℕ = need_of (Some default_limit) (length (trimmed w)) in
    rw (le-ltb m need (omega arith), le-ltb n need (omega arith), le-ltb default_limit need (omega arith))

-- a line over the word limit is refused by 1
pub too_long_line : (p : List ℕ) → word_limit < length p → line_of p ≡ 33 ∷ 49 ∷ 10 ∷ []
unfolding line_of
too_long_line p h = rw (lt-ltb word_limit (length p) h)

-- one with a byte of 128 or more by 2
pub not_ascii_line : (w : List ℕ) → length w ≤ word_limit → first_high w < length w → line_of w ≡ 33 ∷ 50 ∷ 10 ∷ []
unfolding line_of
not_ascii_line w f h = rw (le-ltb word_limit (length w) f, lt-ltb (first_high w) (length w) h)

-- and any other has its two codes
pub taken_line : (w : List ℕ) → Taken w → line_of w ≡ primary w ++ 9 ∷ (alternate w ++ 10 ∷ [])
unfolding line_of
taken_line w t =
    let need : ℕ = need_of (Some default_limit) (length (trimmed w)) in
    rw (
      le-ltb word_limit (length w) t.fits,
      le-ltb (first_high w) (length w) (no_high w t.ascii),
      le-ltb default_limit need (omega arith),
    )

module _ {x : Encoder} {w p a p' a' : List ℕ} {r : Answer} (made : x ≡ encoder_of E1 (Some default_limit)) (e : Encoded x.edition x.limit w p a r p' a') where
  by_default : Encoded E1 (Some default_limit) w p a r p' a'
  by_default = subst (λ (y : Encoder). Encoded y.edition y.limit w p a r p' a') made e

  -- the line by the answer's number
  pub line_by_lem : default_limit ≤ length p → default_limit ≤ length a → (s : Answer) → r ≡ s → line_of w ≡ line_by (number_of s) (primary w) (alternate w)
  unfolding line_of
  line_by_lem h k s q =
      ap (λ (y : Answer). line_by (number_of y) (primary w) (alternate w)) (sym (by_default.answer ∙ enough w (length p) (length a) h k) ∙ q)

  -- a code-accepted word's codes
  pub coded : (c : Coded) → r ≡ Ok c
      → (c.primary ≡ length (primary w)) × (c.alternate ≡ length (alternate w)) × (p' ≡ filled (primary w) p) × (a' ≡ filled (alternate w) a)
  unfolding primary_of alternate_of
  coded c q =
      let x : Walked E1 (Some default_limit) w p a r p' a' = code_walked E1 (code_accepted by_default (ap number_of q)) by_default in
      (ap primary_length (sym q ∙ x.answer), ap alternate_length (sym q ∙ x.answer), x.primary, x.alternate)

-- a refusal's number is one digit, and its line is that
pub one_digit : (r : Refusal) → number_of_refusal r ≤ 4
one_digit TooLong = omega arith
one_digit (NotAscii at) = omega arith
one_digit PrimaryShort = omega arith
one_digit AlternateShort = omega arith

pub refused_line : (r : Refusal) (p a : List ℕ) → line_by (number_of_refusal r) p a ≡ 33 ∷ (48 + number_of_refusal r) ∷ 10 ∷ []
refused_line TooLong p a = refl
refused_line (NotAscii at) p a = refl
refused_line PrimaryShort p a = refl
refused_line AlternateShort p a = refl
