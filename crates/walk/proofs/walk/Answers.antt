-- `walk::walk` meets its contract. The invariant, `Going`, says that the bytes written and those that the definition has
-- still to come from here on are the code; the measure is what is left of the word.
use Prim.Native.Nat.{ℕ, ◌-◌, ◌≤◌}
use mathlib.Core.Path.{◌≡◌, refl, sym, ◌∙◌, ap, ap₂, subst}
use mathlib.Core.Bool.{Bool, true, false}
use mathlib.Core.List.{List}
use native.Mathlib.Omega.{arith}
use lib.ListN.{length}
use Rattle.byte.specs.Text.{upper}
use Rattle.rules.specs.Cond.{Mode, mode}
use Rattle.terms.specs.Editions.{is_second}
use Rattle.terms.specs.declared.Edition.{Edition}
use Rattle.rules.specs.Table.{visit}
use Rattle.rules.proofs.Bound.{visit_short}
use Rattle.tally.specs.declared.Tally.{Tally}
use Rattle.tally.specs.Tally.{counted}
use Rattle.visiting.specs.Visited.{visited}
use Rattle.word.specs.Mark.{slavo_germanic}
use Rattle.outcome.specs.declared.Visit.{Visit}
use Rattle.visiting.specs.declared.Visited.{Visited}
use Rattle.walk.specs.Word.{rule_of, limited_of}
use Rattle.walk.proofs.Told.{edition_if, told, is_asked}
use Rattle.walk.proofs.Turn.{Written, going, room_p, room_a, turned, at_end, at_limit}
use Rattle.walk.proofs.walk.Goals as goal

abbrev Room : Edition → ℕ → List ℕ → List ℕ → List ℕ → Type 0
Room e limit w p a = (length (limited_of e limit w).primary ≤ length p) × (length (limited_of e limit w).alternate ≤ length a)

-- it is the edition that was asked for, so the room is that of its codes
roomy : (e : Edition) (b : Bool) (limit : ℕ) (w p a : List ℕ) → b ≡ is_second e → Room e limit w p a → Room (edition_if b) limit w p a
roomy e b limit w p a h x = subst (λ (d : Edition). Room d limit w p a) (sym (is_asked b e h)) x

as_asked : {d e : Edition} (limit : ℕ) (w p₀ a₀ : List ℕ) {p a : List ℕ} {t : Tally} → d ≡ e → Written (limited_of d limit w) p₀ a₀ p a t → Written (limited_of e limit w) p₀ a₀ p a t
as_asked limit w p₀ a₀ {p = p} {a = a} {t = t} h x = subst (λ (d : Edition). Written (limited_of d limit w) p₀ a₀ p a t) h x

-- the visit is the rule's, and it passes over at most three bytes
ruled : (w : List ℕ) (at : ℕ) (t : Tally) (limit : ℕ) (slavo second : Bool) (r : Visited) → slavo ≡ slavo_germanic (upper w)
    → r ≡ visited t limit (visit (upper w) at (mode slavo second)) → r.visit ≡ rule_of (edition_if second) w at
ruled w at t limit slavo second r s e = ap (λ (q : Visited). q.visit) e ∙ ap₂ (λ (m n : Bool). visit (upper w) at (mode m n)) s (sym (told second))

over_few : (w : List ℕ) (at : ℕ) (t : Tally) (limit : ℕ) (m : Mode) (r : Visited) → r ≡ visited t limit (visit (upper w) at m) → r.visit.over ≤ 3
over_few w at t limit m r e = rw e (visit_short _ _ _).over

took : (t : Tally) (limit : ℕ) (v : Visit) (r : Visited) → r ≡ visited t limit v → r.tally ≡ counted t limit r.visit
took t limit v r e = rw e refl

pub loop-at-init : goal.loop-at-init
loop-at-init c =
    let a = c.args in
    rw c.start_of-at.ensures (going (edition_if c.is_second-second.result) a.w.now a.p.now a.a.now a.limit)

pub put-requires : goal.put-requires
put-requires c =
    let a = c.args in
    let v = c.visit_with-visited in
    let r = ruled a.w.now c.loop-at.at c.loop-at.t a.limit c.is_slavo_germanic-slavo.result c.is_second-second.result v.result c.is_slavo_germanic-slavo.ensures v.ensures in
    let room = roomy a.edition c.is_second-second.result a.limit a.w.now a.p.now a.a.now c.is_second-second.ensures c.requires in
    room_p c.loop-at.invariant v.result.visit r c.loop-at-test.true c.if-limit-t.false room.0

pub put-requires-in-loop-at : goal.put-requires-in-loop-at
put-requires-in-loop-at c =
    let a = c.args in
    let v = c.visit_with-visited in
    let r = ruled a.w.now c.loop-at.at c.loop-at.t a.limit c.is_slavo_germanic-slavo.result c.is_second-second.result v.result c.is_slavo_germanic-slavo.ensures v.ensures in
    let room = roomy a.edition c.is_second-second.result a.limit a.w.now a.p.now a.a.now c.is_second-second.ensures c.requires in
    room_a c.loop-at.invariant v.result.visit r c.loop-at-test.true c.if-limit-t.false room.1

-- a word has fewer than 2^63 bytes
pub overflow_add-at-in-loop-at : goal.overflow_add-at-in-loop-at
overflow_add-at-in-loop-at c =
    let few = over_few _ _ _ _ _ _ c.visit_with-visited.ensures in
    omega (arith, few, c.loop-at-test.true, c.well_formed.0.1)

pub loop-at-preserved : goal.loop-at-preserved
loop-at-preserved c =
    let a = c.args in
    let v = c.visit_with-visited in
    let r = ruled a.w.now c.loop-at.at c.loop-at.t a.limit c.is_slavo_germanic-slavo.result c.is_second-second.result v.result c.is_slavo_germanic-slavo.ensures v.ensures in
    let room = roomy a.edition c.is_second-second.result a.limit a.w.now a.p.now a.a.now c.is_second-second.ensures c.requires in
    let one = c.put in
    let two = c.put-in-loop-at in
    turned c.loop-at.invariant v.result.visit r c.loop-at-test.true c.if-limit-t.false v.result.tally one.new.buf two.new.buf
    (took _ _ _ _ v.ensures) one.ensures two.ensures room.0 room.1

pub returns-after-loop-at : goal.returns-after-loop-at
returns-after-loop-at c =
    let a = c.args in
    let p = as_asked a.limit a.w.now a.p.now a.a.now (is_asked _ _ c.is_second-second.ensures) (at_end c.loop-at.invariant c.loop-at-test.false) in
    record { tally = p.0; primary = p.1.0; alternate = p.1.1 }

pub returns-then-limit-t : goal.returns-then-limit-t
returns-then-limit-t c =
    let a = c.args in
    let p = as_asked a.limit a.w.now a.p.now a.a.now (is_asked _ _ c.is_second-second.ensures) (at_limit c.loop-at.invariant c.if-limit-t.true) in
    record { tally = p.0; primary = p.1.0; alternate = p.1.1 }
