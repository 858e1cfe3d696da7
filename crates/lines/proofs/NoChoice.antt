-- No public function's promise leaves a choice: for the same arguments, any two results that it admits are equal, and so are the
-- lent buffers at exit.
use Prim.Native.Nat.{ℕ, ◌<◌}
use mathlib.Core.Path.{◌≡◌, refl, sym, ap, ◌∙◌}
use mathlib.Core.List.{List}
use mathlib.Core.Bool.{Bool, true, false}
use native.Mathlib.Omega.{arith}
use borrow.Author.Tests.{ltb-true, ltb-false}
use borrow.Fn.Kinds.{Dens, res_t, ended_of}
use denote.Triple.Clauses.{AtExit}
use lib.Dec.{ltb}
use Rattle.lines.specs.declared.Progress.{Progress}
use Rattle.lines.specs.Feed.{Hand, hand, Fed}
use Rattle.lines.proofs.Hand.{some_held}
use Rattle.lines.proofs.feed.Kinds as feed-kinds
use Rattle.lines.proofs.feed.Reads as feed
use Rattle.lines.proofs.finish.Kinds as finish-kinds
use Rattle.lines.proofs.finish.Reads as finish
use contract.Lifetimes.{Lfts}

-- a feed that stops earlier than another had no room, and the other had
not_before : {block out word₁ out₁ word₂ out₂ : List ℕ} {h : Hand} {r s : Progress} → Fed block h out r word₁ out₁ → Fed block h out s word₂ out₂ → r.used < s.used → ⊥
not_before {h = h} {r = r} x y l =
    let p = some_held h in
    let a = x.read p.0 p.1 in
    let b = y.read p.0 p.1 in
    omega (arith, x.early (omega (arith, y.within)), a.wrote_is, b.room r.used l)

module _ {block out word₁ out₁ word₂ out₂ : List ℕ} {h : Hand} {r s : Progress} (x : Fed block h out r word₁ out₁) (y : Fed block h out s word₂ out₂) where
  same_used : r.used ≡ s.used
  same_used = go (ltb r.used s.used) (ltb s.used r.used) refl refl
    where
      go : (t u : Bool) → ltb r.used s.used ≡ t → ltb s.used r.used ≡ u → r.used ≡ s.used
      go true u e f = absurd (not_before x y (ltb-true r.used s.used e))
      go false true e f = absurd (not_before y x (ltb-true s.used r.used f))
      go false false e f = omega (arith, ltb-false r.used s.used e, ltb-false s.used r.used f)

  same_wrote : r.wrote ≡ s.wrote
  same_wrote =
      let p = some_held h in
      (x.read p.0 p.1).wrote_is ∙ rw same_used (sym (y.read p.0 p.1).wrote_is)

  same_hand : hand r.held word₁ ≡ hand s.held word₂
  same_hand = x.held ∙ rw same_used (sym y.held)

  same_output : out₁ ≡ out₂
  same_output =
      let p = some_held h in
      (x.read p.0 p.1).output ∙ rw same_used (sym (y.read p.0 p.1).output)

  same_progress : r ≡ s
  same_progress = λ i. record { used = same_used i; wrote = same_wrote i; held = (same_hand i).count }

-- the block, the word, the count and the output: the word and the output at exit are the second and the fourth
module _ (κs : Lfts 3) (a : Dens κs feed-kinds.ps) (x y : (res_t feed-kinds.r κs).Denot) (s t : AtExit (ended_of 3 feed-kinds.ps feed-kinds.r) κs)
    (p : feed.Post κs a x s) (q : feed.Post κs a y t) where
  pub one_feed : x ≡ y
  one_feed = same_progress p q

  pub one_word : s.1.0.now ≡ t.1.0.now
  one_word = ap (λ (h : Hand). h.bytes) (same_hand p q)

  pub one_output : s.1.1.1.0.now ≡ t.1.1.1.0.now
  one_output = same_output p q

-- the word, the count and the output, which at exit is the third
module _ (κs : Lfts 2) (a : Dens κs finish-kinds.ps) (x y : (res_t finish-kinds.r κs).Denot) (s t : AtExit (ended_of 2 finish-kinds.ps finish-kinds.r) κs)
    (p : finish.Post κs a x s) (q : finish.Post κs a y t) where
  pub one_finish : x ≡ y
  one_finish = let l = some_held (hand a.1.0 a.0.now) in p.wrote_is l.0 l.1 ∙ sym (q.wrote_is l.0 l.1)

  pub one_last : s.1.1.0.now ≡ t.1.1.0.now
  one_last = let l = some_held (hand a.1.0 a.0.now) in p.output l.0 l.1 ∙ sym (q.output l.0 l.1)
