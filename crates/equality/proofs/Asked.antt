-- What an answer of the encoder means for the equality question.
use Prim.Native.Nat.{ℕ, ◌-◌, ◌*◌, ◌≤◌}
use mathlib.Core.Path.{refl}
use mathlib.Core.List.{List}
use borrow.Author.Tests.{lt-ltb, le-ltb}
use lib.ListN.{length}
use Rattle.std.specs.Prelude.{Ok, Err}
use Rattle.terms.specs.declared.Edition.{Edition}
use Rattle.terms.specs.Limits.{Limit, word_limit}
use Rattle.answers.specs.declared.Coded.{Coded}
use Rattle.answers.specs.declared.Refusal.{Refusal}
use Rattle.answers.specs.declared.Refusal.TheVariants.{TooLong, NotAscii, PrimaryShort, AlternateShort}
use Rattle.answers.specs.declared.Word.{Word}
use Rattle.ascii.specs.High.{first_high}
use Rattle.encoder.specs.Encode.{Encoded}
use Rattle.demands.specs.Demand2.{Taken}
use Rattle.demands.proofs.Demand2.{code_accepted}
use Rattle.demands.proofs.Room.{never_three, never_four}
use Rattle.equality.specs.Equality.{Refuses}

module _ {ed : Edition} {l : Limit} {w p a p' a' : List ℕ} where
  pub taken : {x : Coded} → Encoded ed l w p a (Ok x) p' a' → Taken w
  taken e = (code_accepted e refl).taken

  -- where no buffer is too short, a refusal is the word's
  pub refuses : (which : Word) (r : Refusal) → Encoded ed l w p a (Err r) p' a' → 2 * word_limit - 1 ≤ length p → 2 * word_limit - 1 ≤ length a
      → Refuses which w (record { word = which; refusal = r })
  refuses which TooLong e i j = λ v. rw (lt-ltb word_limit (length w) (e.given.one.0 refl))
  refuses which (NotAscii at) e i j =
      let h = e.given.two.0 refl in
      λ v. rw (le-ltb word_limit (length w) h.0, lt-ltb (first_high w) (length w) h.1, e.given.place refl)
  refuses which PrimaryShort e i j = absurd (never_three e i j refl)
  refuses which AlternateShort e i j = absurd (never_four e i j refl)
