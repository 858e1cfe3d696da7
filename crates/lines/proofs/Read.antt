-- One byte read, bytes read on, and the end of the input.
use Prim.Native.Nat.{ℕ, ◌+◌, ◌≤◌, ◌<◌}
use mathlib.Core.Path.{◌≡◌, refl, sym, ap, subst, ◌∙◌}
use mathlib.Core.List.{List, [], ◌∷◌, ◌++◌, append-nil}
use mathlib.Core.Bool.{Bool, true, false}
use native.Mathlib.Numerals.{add-one}
use native.Mathlib.Omega.{arith}
use borrow.Author.Tests.{ltb-true, ltb-false, eq-eqb, ne_eqb}
use lib.Dec.{ltb}
use lib.ListN.{length, take, drop, get_or, length-append}
use lib.Seq.{sets, take-suc}
use Rattle.terms.specs.Limits.{word_limit}
use Rattle.encoder.specs.Encode.{filled}
use Rattle.lines.specs.declared.Counts.{Counts}
use Rattle.lines.specs.declared.Progress.{Progress}
use Rattle.line.specs.Line.{line_of, line_room}
use Rattle.lines.specs.Lines.{ended, begun, last, written}
use Rattle.lines.specs.Feed.{Hand, hand, Holds, keep, Read, Fed, Finished}
use Rattle.lines.specs.Inside.{Answered, Stepped}
use Rattle.basics.proofs.Sets.{sets_append}
use Rattle.line.proofs.Place.{sets_filled}
use Rattle.lines.proofs.Split.{ended_append, written_append}
use Rattle.lines.proofs.Hand.{some_held, none_held, one_held}

-- what one byte ends
ends : (p : List ℕ) (b : ℕ) → b ≡ 10 → written (ended p (b ∷ [])) ≡ line_of p
unfolding ended
ends p b e = simp (eq-eqb b 10 e) (append-nil (line_of p))

ends_not : (p : List ℕ) (b : ℕ) → (b ≡ 10 → ⊥) → written (ended p (b ∷ [])) ≡ []
unfolding ended
ends_not p b n = simp (ne_eqb b 10 n)

pub stepped_end : (b : ℕ) (h : Hand) (out : List ℕ) (wrote n : ℕ) (out' : List ℕ) → b ≡ 10 → Answered h out wrote n out'
    → Stepped b h out wrote (record { wrote = wrote + n; held = 0 }) h.bytes out'
stepped_end b h out wrote n out' e a =
    record {
      short = omega (arith, a.short);
      held = rw (eq-eqb b 10 e);
      long = λ p x. ap (λ (k : ℕ). wrote + k) (a.long p x ∙ sym (ap length (ends p b e)));
      output = λ p x. a.output p x ∙ sym (ap (λ (l : List ℕ). sets out wrote l) (ends p b e));
    }

pub stepped_in : (b : ℕ) (h : Hand) (out : List ℕ) (wrote n : ℕ) (word' : List ℕ) → (b ≡ 10 → ⊥) → hand n word' ≡ keep b h
    → Stepped b h out wrote (record { wrote = wrote; held = n }) word' out
stepped_in b h out wrote n word' d k =
    record {
      short = omega arith;
      held = k ∙ rw (ne_eqb b 10 d);
      long = λ p x. let z : length (written (ended p (b ∷ []))) ≡ 0 = ap length (ends_not p b d) in omega arith;
      output = λ p x. sym (ap (λ (l : List ℕ). sets out wrote l) (ends_not p b d));
    }

-- one byte more of a block
module _ (p block out : List ℕ) (used : ℕ) (inside : used < length block) where
  abbrev before : List ℕ
  before = written (ended p (take used block))

  abbrev byte : List ℕ
  byte = written (ended (begun p (take used block)) (get_or block used 0 ∷ []))

  both : written (ended p (take (used + 1) block)) ≡ before ++ byte
  both =
      ap (λ (l : List ℕ). written (ended p l)) (ap (λ (k : ℕ). take k block) (add-one used) ∙ take-suc block used 0 inside)
      ∙ ap written (ended_append p (take used block) (get_or block used 0 ∷ []))
      ∙ written_append (ended p (take used block)) (ended (begun p (take used block)) (get_or block used 0 ∷ []))

  pub read_on : (h : Hand) (wrote : ℕ) (r : Counts) (word' out₁ out₂ : List ℕ) → wrote + line_room ≤ length out
      → Read p block out used wrote out₁ → Holds (begun p (take used block)) h → Stepped (get_or block used 0) h out₁ wrote r word' out₂
      → Read p block out (used + 1) r.wrote out₂
  read_on h wrote r word' out₁ out₂ fits x q s =
      let long : r.wrote ≡ length (before ++ byte) = omega (arith, s.long (begun p (take used block)) q, x.wrote_is, length-append before byte) in
      let stored : out₂ ≡ sets out 0 (before ++ byte) =
      s.output (begun p (take used block)) q
      ∙ ap (λ (l : List ℕ). sets l wrote byte) (x.output ∙ sym (sets_filled out before (omega (arith, x.wrote_is))))
      ∙ ap (λ (k : ℕ). sets (sets out 0 before) k byte) (omega (arith, x.wrote_is))
      ∙ sets_append before out byte 0
      in
      record {
        wrote_is = long ∙ sym (ap length both);
        output = stored ∙ sets_filled out (before ++ byte) (omega (arith, s.short)) ∙ sym (ap (λ (l : List ℕ). filled l out) both);
        room = λ k l. go k l (ltb k used) refl;
      }
    where
      go : (k : ℕ) → k < used + 1 → (t : Bool) → ltb k used ≡ t → length (written (ended p (take k block))) + line_room ≤ length out
      go k l true t = x.room k (ltb-true k used t)
      go k l false t =
          let e : used ≡ k = omega (arith, ltb-false k used t) in
          subst (λ (m : ℕ). length (written (ended p (take m block))) + line_room ≤ length out) e (omega (arith, x.wrote_is))

pub read_none : (p block out : List ℕ) → Read p block out 0 0 out
unfolding ended
read_none p block out = record { wrote_is = refl; output = refl; room = λ k l. absurd (omega arith) }

-- with room for a line, a feed passes at least one byte
nothing : (p block : List ℕ) (used : ℕ) → used ≡ 0 → length (written (ended p (take used block))) ≡ 0
unfolding ended
nothing p block used e = rw e

pub feed_moves : {block out word' out' : List ℕ} {h : Hand} {r : Progress} → Fed block h out r word' out' → line_room ≤ length out → 0 < length block → 0 < r.used
feed_moves {block} {out} {h = h} {r = r} x room some = go (ltb 0 r.used) refl
  where
    go : (t : Bool) → ltb 0 r.used ≡ t → 0 < r.used
    go true t = ltb-true 0 r.used t
    go false t =
        let p = some_held h in
        let z : r.used ≡ 0 = omega (arith, ltb-false 0 r.used t) in
        absurd (omega (arith, x.early (omega arith), (x.read p.0 p.1).wrote_is, nothing p.0 block r.used z))

-- the end
pub finished_none : (h : Hand) (out : List ℕ) → h.count ≡ 0 → Finished h out 0 out
finished_none h out e =
    record {
      fits = omega arith;
      wrote_is = λ p x. sym (ap (λ (q : List ℕ). length (written (last q))) (none_held p h x e));
      output = λ p x. sym (ap (λ (q : List ℕ). filled (written (last q)) out) (none_held p h x e));
    }

pub finished_one : (h : Hand) (out : List ℕ) (n : ℕ) (out' : List ℕ) → word_limit ≤ length h.bytes → line_room ≤ length out → (h.count ≡ 0 → ⊥)
    → Answered h out 0 n out' → Finished h out n out'
finished_one h out n out' room fits some a =
    record {
      fits = a.short;
      wrote_is = λ p x. a.long p x ∙ sym (ap length (line p x));
      output = λ p x. a.output p x ∙ sets_filled out (line_of p) (omega (arith, a.short, a.long p x)) ∙ sym (ap (λ (l : List ℕ). filled l out) (line p x));
    }
  where
    line : (p : List ℕ) → Holds p h → written (last p) ≡ line_of p
    line p x = ap written (one_held p h room x some) ∙ append-nil (line_of p)

-- what was written is a part of the output
pub finish_fits : {h : Hand} {out out' : List ℕ} {n : ℕ} → Finished h out n out' → n ≤ length out'
finish_fits {h} {out} x =
    let p = some_held h in
    let code : List ℕ = written (last p.0) in
    omega (arith, x.wrote_is p.0 p.1, ap length (x.output p.0 p.1), length-append code (drop (length code) out))
