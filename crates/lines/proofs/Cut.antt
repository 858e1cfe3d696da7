-- Any feeds and a finish write the definition's output of all that was read: where the input was cut does not matter.
use Prim.Native.Nat.{ℕ}
use mathlib.Core.Path.{◌≡◌, refl, sym, ap, ◌∙◌}
use mathlib.Core.List.{List, [], ◌++◌}
use native.Mathlib.Omega.{arith}
use lib.ListN.{length, take}
use lib.Seq.{take_at}
use Rattle.terms.specs.Limits.{word_limit}
use Rattle.encoder.specs.Encode.{filled}
use Rattle.lines.specs.Lines.{ended, begun, last, written, output_of, lines_of}
use Rattle.lines.specs.Feed.{Hand, hand, Holds, Finished, Run, start, fed}
use Rattle.lines.proofs.Split.{ended_append, begun_append, written_append}
use Rattle.lines.proofs.Hand.{after_long, holds_at}

-- what was written so far, and what is held
record Sofar (i o : List ℕ) (h : Hand) : Type 0 where
  output : o ≡ written (ended [] i)
  holds : Holds (begun [] i) h
  long : length h.bytes ≡ word_limit

-- the front of a filled buffer
front : (code buf buf' : List ℕ) (n : ℕ) → n ≡ length code → buf' ≡ filled code buf → take n buf' ≡ code
front code buf buf' n e f = ap (λ (l : List ℕ). take n l) f ∙ take_at code _ n (sym e)

sofar : {i o : List ℕ} {h : Hand} → Run i o h → Sofar i o h
unfolding ended begun
sofar (start buf e) = record { output = refl; holds = record { bytes = λ _. refl; over = λ k. absurd (omega arith) }; long = e }
sofar (fed {i} {o} {h} {block} {out} {word'} {out'} {r} run x) = fed_on (sofar run)
  where
    fed_on : Sofar i o h → Sofar (i ++ take r.used block) (o ++ take r.wrote out') (hand r.held word')
    fed_on s =
        let l : List ℕ = take r.used block in
        let p : List ℕ = begun [] i in
        let long : length word' ≡ word_limit = ap (λ (k : Hand). length k.bytes) x.held ∙ after_long l h ∙ s.long in
        let read = x.read p s.holds in
        record {
          output = ap (λ (a : List ℕ). a ++ take r.wrote out') s.output
              ∙ ap (λ (b : List ℕ). written (ended [] i) ++ b) (front (written (ended p l)) out out' r.wrote read.wrote_is read.output)
              ∙ sym (ap written (ended_append [] i l) ∙ written_append (ended [] i) (ended p l));
          holds = rw (begun_append [] i l) (holds_at p l h (hand r.held word') x.held (omega arith) s.holds);
          long = long;
        }

pub lines_output : {i o out out' : List ℕ} {h : Hand} {n : ℕ} → Run i o h → Finished h out n out' → o ++ take n out' ≡ output_of i
unfolding output_of lines_of
lines_output {i} {o} {out} {out'} {h} {n} run x =
    let s = sofar run in
    let p : List ℕ = begun [] i in
    ap (λ (a : List ℕ). a ++ take n out') s.output
    ∙ ap (λ (b : List ℕ). written (ended [] i) ++ b) (front (written (last p)) out out' n (x.wrote_is p s.holds) (x.output p s.holds))
    ∙ sym (written_append (ended [] i) (last p))

-- two readers of one input, each with its own cuts and its own room, write the same
pub lines_cut_anywhere : {i o o₂ out out' out₂ out₂' : List ℕ} {h h₂ : Hand} {n n₂ : ℕ} → Run i o h → Finished h out n out' → Run i o₂ h₂ → Finished h₂ out₂ n₂ out₂'
    → o ++ take n out' ≡ o₂ ++ take n₂ out₂'
lines_cut_anywhere a x b y = lines_output a x ∙ sym (lines_output b y)
