-- Where the editions agree: a word that does not begin, when trimmed, with VAN or VON and a space has the same codes and visits in
-- both, and gets the same answer.
use Prim.Native.Nat.{ℕ, ◌-◌}
use mathlib.Core.Path.{◌≡◌, ap}
use mathlib.Core.Bool.{false, cond}
use mathlib.Core.List.{List}
use lib.Dec.{ltb}
use lib.ListN.{length}
use Rattle.byte.specs.Text.{upper}
use Rattle.rules.specs.Dutch.{dutch}
use Rattle.terms.specs.declared.Edition.TheVariants.{E1, E2}
use Rattle.outcome.specs.declared.Visit.{Visit}
use Rattle.rules.proofs.Editions.{visit_agrees}
use Rattle.walk.specs.Walk.{places, to_primary, to_alternate, whole, limited}
use Rattle.word.specs.Mark.{slavo_germanic}
use Rattle.word.specs.Start.{start_of}
use Rattle.walk.specs.Word.{visits_of, rule_of}
use Rattle.terms.specs.Limits.{Limit}
use Rattle.std.specs.Prelude.{Some, None, Ok, Err}
use Rattle.chosen.specs.declared.Choice.{Choice}
use Rattle.chosen.specs.declared.Choice.TheVariants.{Primary, Alternate}
use Rattle.answers.specs.declared.Refusal.TheVariants.{TooLong, NotAscii, PrimaryShort, AlternateShort}
use Rattle.trimming.specs.Trim.{trimmed}
use Rattle.ascii.specs.High.{first_high}
use Rattle.terms.specs.Limits.{word_limit}
use Rattle.needs.specs.Needs.{need_of}
use Rattle.encoder.specs.Encode.{walk_of, primary_of, alternate_of, answer_of}
use Rattle.demands.specs.Code.{code_of}
use Rattle.walk.specs.Walk as walk

rule_agrees : (t : List ℕ) → dutch t ≡ false → rule_of E1 t ≡ rule_of E2 t
rule_agrees t h = λ i p. visit_agrees t h p (slavo_germanic (upper t)) i

-- the places that a rule visits in the word
abbrev visited : List ℕ → (ℕ → Visit) → List ℕ
visited t v = places v (start_of t) 0 (length t - start_of t)

pub walk_agrees : (l : Limit) (t : List ℕ) → dutch t ≡ false → walk_of E1 l t ≡ walk_of E2 l t
unfolding visits_of
walk_agrees None t h = ap (λ (v : ℕ → Visit). whole (to_primary v) (to_alternate v) (visited t v)) (rule_agrees t h)
walk_agrees (Some n) t h = ap (λ (v : ℕ → Visit). limited (to_primary v) (to_alternate v) n n (visited t v)) (rule_agrees t h)

pub code_agrees : (l : Limit) (c : Choice) (w : List ℕ) → dutch (trimmed w) ≡ false → code_of E1 l c w ≡ code_of E2 l c w
unfolding primary_of alternate_of
code_agrees l Primary w h = ap (λ (x : walk.Coded). x.primary) (walk_agrees l (trimmed w) h)
code_agrees l Alternate w h = ap (λ (x : walk.Coded). x.alternate) (walk_agrees l (trimmed w) h)

pub answer_agrees : (l : Limit) (w : List ℕ) (m n : ℕ) → dutch (trimmed w) ≡ false → answer_of E1 l w m n ≡ answer_of E2 l w m n
unfolding primary_of alternate_of
answer_agrees l w m n h =
    ap (λ (x : walk.Coded).
    cond (ltb word_limit (length w)) (Err TooLong)
    (cond (ltb (first_high w) (length w)) (Err (NotAscii (first_high w)))
    (cond (ltb m (need_of l (length (trimmed w)))) (Err PrimaryShort)
    (cond (ltb n (need_of l (length (trimmed w)))) (Err AlternateShort)
    (Ok (record { primary = length x.primary; alternate = length x.alternate; visits = x.visits })))))) (walk_agrees l (trimmed w) h)
