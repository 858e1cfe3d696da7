-- A word is code-accepted exactly when no refusal is given, and then it gets the codes and the visits of the definition's walk.
use Prim.Native.Nat.{ℕ, ◌≤◌}
use mathlib.Core.Path.{◌≡◌, ◌∙◌}
use mathlib.Core.List.{List}
use native.Mathlib.Omega.{arith}
use borrow.Author.Tests.{le-ltb}
use lib.ListN.{length}
use Rattle.terms.specs.declared.Edition.{Edition}
use Rattle.terms.specs.Limits.{Limit}
use Rattle.std.specs.Prelude.{Ok}
use Rattle.trimming.specs.Trim.{trimmed}
use Rattle.ascii.specs.High.{first_high}
use Rattle.terms.specs.Limits.{word_limit}
use Rattle.encoder.specs.Encode.{Answer, number_of, primary_of, alternate_of, coded_of, answer_of, Encoded}
use Rattle.needs.specs.Needs.{need_of}
use Rattle.demands.specs.Demand2.{Taken, Accepted, Walked}
use Rattle.ascii.proofs.High.{first_high_lem, no_high}

-- a word that neither refusal's test finds is taken
pub taken_by : (w : List ℕ) → length w ≤ word_limit → length w ≤ first_high w → Taken w
taken_by w f h = record { fits = f; ascii = λ k l. (first_high_lem w).before k (omega arith) }

-- where no refusal is given the word is code-accepted
pub code_accepted : {ed : Edition} {l : Limit} {w p a : List ℕ} {r : Answer} {p' a' : List ℕ} → Encoded ed l w p a r p' a' → number_of r ≡ 0 → Accepted l w p a
code_accepted {w = w} e h =
    let g = e.given.accepted.0 h in
    record { taken = taken_by w g.0 g.1; primary = g.2; alternate = g.3 }

module _ (ed : Edition) {l : Limit} {w p a : List ℕ} (x : Accepted l w p a) where
  answer_coded : answer_of ed l w (length p) (length a) ≡ Ok (coded_of ed l (trimmed w))
  answer_coded =
      rw (
        le-ltb word_limit (length w) x.taken.fits,
        le-ltb (first_high w) (length w) (no_high w x.taken.ascii),
        le-ltb (length p) (need_of l (length (trimmed w))) x.primary,
        le-ltb (length a) (need_of l (length (trimmed w))) x.alternate,
      )

  pub code_walked : {r : Answer} {p' a' : List ℕ} → Encoded ed l w p a r p' a' → Walked ed l w p a r p' a'
  unfolding primary_of alternate_of
  code_walked e =
      let q = e.answer ∙ answer_coded in
      record { answer = q; primary = rw q at e.primary; alternate = rw q at e.alternate }
