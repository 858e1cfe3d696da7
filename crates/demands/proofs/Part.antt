-- After an code-accepted call the part that is handed back is the chosen code.
use Prim.Native.Nat.{ℕ}
use mathlib.Core.Path.{◌≡◌, sym, ap, ◌∙◌}
use mathlib.Core.List.{List}
use native.Mathlib.Omega.{arith}
use borrow.Author.Tests.{le-leb}
use lib.ListN.{length, drop, length-append}
use lib.Seq.{take-append_seam}
use Rattle.terms.specs.declared.Edition.{Edition}
use Rattle.terms.specs.Limits.{Limit}
use Rattle.encoder.specs.declared.Encoder.{Encoder}
use Rattle.chosen.specs.declared.Choice.{Choice}
use Rattle.chosen.specs.declared.Choice.TheVariants.{Primary, Alternate}
use Rattle.std.specs.Prelude.{Ok}
use Rattle.answers.specs.declared.Coded.{Coded}
use Rattle.trimming.specs.Trim.{trimmed}
use Rattle.encoder.specs.Encode.{Answer, encoder_of, number_of, primary_length, alternate_length, primary_of, alternate_of, filled, Encoded}
use Rattle.demands.specs.Demand2.{Walked}
use Rattle.chosen.specs.Chosen.{front_of, chosen_of}
use Rattle.demands.specs.Code.{code_of}
use Rattle.demands.proofs.Demand2.{code_accepted, code_walked}

-- a code at the front of its buffer is handed back
front_filled : (code buf : List ℕ) (n : ℕ) → length code ≡ n → front_of n (filled code buf) ≡ code
front_filled code buf n e =
    rw (← e, le-leb (length code) (length (filled code buf)) (omega (arith, length-append code (drop (length code) buf))))
    (take-append_seam code (drop (length code) buf))

pub chosen_code_lem : {ed : Edition} {l : Limit} {w p a p' a' : List ℕ} {r : Answer} → Encoded ed l w p a r p' a' → (c : Choice) (x : Coded) → r ≡ Ok x
    → chosen_of c p' x.primary a' x.alternate ≡ code_of ed l c w
unfolding primary_of alternate_of
chosen_code_lem {ed} {l} {w} {p} {a} {p'} {a'} {r} e c x q = go c (code_walked ed (code_accepted e (ap number_of q)) e)
  where
    go : (c : Choice) → Walked ed l w p a r p' a' → chosen_of c p' x.primary a' x.alternate ≡ code_of ed l c w
    go Primary y = rw y.primary (front_filled (primary_of ed l (trimmed w)) p x.primary (ap primary_length (sym y.answer ∙ q)))
    go Alternate y = rw y.alternate (front_filled (alternate_of ed l (trimmed w)) a x.alternate (ap alternate_length (sym y.answer ∙ q)))

-- and of a call of the encoder s that was made for an edition with the limit l
pub part_is : {s : Encoder} {ed : Edition} {l : Limit} {w p a p' a' part : List ℕ} {r : Answer} → s ≡ encoder_of ed l → Encoded s.edition s.limit w p a r p' a'
    → (c : Choice) (x : Coded) → r ≡ Ok x → part ≡ chosen_of c p' x.primary a' x.alternate → part ≡ code_of ed l c w
part_is {w = w} made e c x q f = f ∙ chosen_code_lem e c x q ∙ ap (λ (s : Encoder). code_of s.edition s.limit c w) made
