-- Four tests that no word makes matter (specs/Idle.antt). Of each: what the tests before it say of its answer; that its condition
-- is the same without it; and that the letter's cases then answer alike, at every place of every word.
use Prim.Native.Char.{code}
use Prim.Native.Nat.{ℕ, ◌+◌}
use mathlib.Core.Bool.{Bool, true, false, cond, not, ◌&&◌, ◌||◌, and-false, or-true, or-false}
use mathlib.Core.List.{List, [], ◌∷◌}
use mathlib.Core.Path.{◌≡◌, refl, sym, ap, ◌∙◌}
use native.Mathlib.Omega.{arith}
use borrow.Author.Tests.{eqb-true}
use lib.Dec.{ltb, eqb}
use lib.ListN.{length, get_or}
use Rattle.byte.specs.Text.{bytes}
use Rattle.windows.specs.Window.{is_at, sees}
use Rattle.spots.specs.Spot.{byte_at}
use Rattle.basics.proofs.Tests.{both, neither}
use Rattle.windows.proofs.Facts.{is_at_begins}
use Rattle.rules.specs.Cond.{Cond, Mode, window, vowel, place, below, slavo, non, ◌&◌, ◌or◌, ahead, back, holds}
use Rattle.rules.specs.Case.{Case, case, gives, first}
use Rattle.rules.specs.Plain.{next}
use Rattle.rules.specs.CasesC.{cases_c, ach, condition_c0}
use Rattle.rules.specs.CasesDL.{cases_j, JOSE, SAN, spanish, first_j}
use Rattle.rules.specs.CasesG.{cases_g, GN, gn_other}
use Rattle.rules.specs.CasesS.{cases_s, SIO}
use Rattle.rules.specs.Idle.{asking, Alike, gn_other_brief, sio_brief, ach_brief, first_j_brief}

-- ---- a test that is brought by another may be left out beside it
and_left : (x d : Bool) → (x ≡ true → d ≡ true) → (x && d) ≡ x
and_left true d h = h refl
and_left false d h = refl

or_left : (x d : Bool) → (d ≡ true → x ≡ true) → (x || d) ≡ x
or_left true d h = refl
or_left false true h = sym (h refl)
or_left false false h = refl

-- ---- the Y test in the GN branch of handle_g
-- one byte is not two letters
other_byte : (u : List ℕ) (q a b : ℕ) → eqb a b ≡ false → byte_at u q a ≡ true → byte_at u q b ≡ false
unfolding byte_at
other_byte u q a b d e =
    let h = eqb-true (get_or u q 0) a (both (ltb q (length u)) (eqb (get_or u q 0) a) e).1 in
    rw (h, d) (and-false (ltb q (length u)))

pub n_is_no_y : (u : List ℕ) (p : ℕ) (m : Mode) → holds GN u p m ≡ true → holds (next "Y") u p m ≡ false
unfolding holds
n_is_no_y u p m e = other_byte u (p + 1) (code "N") (code "Y") refl e

pub gn_other_lem : (u : List ℕ) (p : ℕ) (m : Mode) → holds GN u p m ≡ true → holds gn_other u p m ≡ holds gn_other_brief u p m
unfolding holds
gn_other_lem u p m e =
    ap (λ (b : Bool). b && not m.mark)
    (and_left (holds (non (window (ahead 2) 2 ("EY" ∷ []))) u p m) (holds (non (next "Y")) u p m) (λ h. ap not (n_is_no_y u p m e)))

-- case 9 holds before N alone
gn_case : (u : List ℕ) (p : ℕ) (m : Mode) → holds (GN & gn_other) u p m ≡ holds (GN & gn_other_brief) u p m
unfolding holds
gn_case u p m = by (holds GN u p m) refl
  where
    by : (b : Bool) → holds GN u p m ≡ b → (b && holds gn_other u p m) ≡ (b && holds gn_other_brief u p m)
    by true e = gn_other_lem u p m e
    by false e = refl

pub y_idle : Alike cases_g (asking 9 (GN & gn_other_brief) cases_g)
unfolding first cases_g
y_idle u p m = rw (gn_case u p m) refl

-- ---- SIAN beside SIA
pub sian_is_sia : (u : List ℕ) (p : ℕ) (m : Mode) → holds (window (ahead 0) 4 ("SIAN" ∷ [])) u p m ≡ true → holds sio_brief u p m ≡ true
unfolding holds sees
sian_is_sia u p m e =
    let sian : is_at u (p + 0) 4 (bytes "SIAN") ≡ true = sym (or-false _) ∙ e in
    simp (is_at_begins u (p + 0) 4 3 (bytes "SIAN") (omega arith) sian, or-true)

pub sio : (u : List ℕ) (p : ℕ) (m : Mode) → holds SIO u p m ≡ holds sio_brief u p m
unfolding holds
sio u p m = or_left (holds sio_brief u p m) (holds (window (ahead 0) 4 ("SIAN" ∷ [])) u p m) (sian_is_sia u p m)

-- cases 5 and 6
sio_marked : (u : List ℕ) (p : ℕ) (m : Mode) → holds (SIO & slavo) u p m ≡ holds (sio_brief & slavo) u p m
unfolding holds
sio_marked u p m = ap (λ (b : Bool). b && m.mark) (sio u p m)

pub sian_idle : Alike cases_s (asking 5 (sio_brief & slavo) (asking 6 sio_brief cases_s))
unfolding first cases_s
sian_idle u p m = rw (sio_marked u p m, sio u p m) refl

-- ---- the second place-below-2 test of condition_c0
pub asked_once : (u : List ℕ) (p : ℕ) (m : Mode) → holds (non (below 2 or vowel (back 2))) u p m ≡ true → holds (non (below 2)) u p m ≡ true
unfolding holds
asked_once u p m e = by (ltb p 2) _ e
  where
    by : (b v : Bool) → not (b || v) ≡ true → not b ≡ true
    by true v h = h
    by false v h = refl

-- the fourth test of five, brought by the second
fourth : (u : List ℕ) (p : ℕ) (m : Mode) (a b c d e : Cond) → (holds b u p m ≡ true → holds d u p m ≡ true)
    → holds (a & b & c & d & e) u p m ≡ holds (a & b & c & e) u p m
unfolding holds
fourth u p m a b c d e h =
    let ab : Bool = holds a u p m && holds b u p m in
    ap (λ (q : Bool). q && holds e u p m)
    (and_left (ab && holds c u p m) (holds d u p m) (λ t. h (both (holds a u p m) (holds b u p m) (both ab (holds c u p m) t).0).1))

pub ach_once : (u : List ℕ) (p : ℕ) (m : Mode) → holds ach u p m ≡ holds ach_brief u p m
ach_once u p m = fourth u p m _ _ _ _ _ (asked_once u p m)

-- case 1
c0_once : (u : List ℕ) (p : ℕ) (m : Mode) → holds condition_c0 u p m ≡ holds (window (ahead 0) 4 ("CHIA" ∷ []) or ach_brief) u p m
unfolding holds
c0_once u p m = ap (λ (b : Bool). holds (window (ahead 0) 4 ("CHIA" ∷ [])) u p m || b) (ach_once u p m)

pub below_idle : Alike cases_c (asking 1 (window (ahead 0) 4 ("CHIA" ∷ []) or ach_brief) cases_c)
unfolding first cases_c
below_idle u p m = rw (c0_once u p m) refl

-- ---- the JOSE test in the else arm of handle_j
pub no_jose : (u : List ℕ) (p : ℕ) (m : Mode) → holds spanish u p m ≡ false → holds (non JOSE) u p m ≡ true
unfolding holds
no_jose u p m e = simp (neither (holds JOSE u p m) (holds SAN u p m) e).0

pub first_j_lem : (u : List ℕ) (p : ℕ) (m : Mode) → holds spanish u p m ≡ false → holds first_j u p m ≡ holds first_j_brief u p m
unfolding holds
first_j_lem u p m e = and_left (holds (place 0) u p m) (holds (non JOSE) u p m) (λ h. no_jose u p m e)

first_doubled : (u : List ℕ) (p : ℕ) (m : Mode) → holds spanish u p m ≡ false → holds (first_j & next "J") u p m ≡ holds (first_j_brief & next "J") u p m
unfolding holds
first_doubled u p m e = ap (λ (b : Bool). b && holds (next "J") u p m) (first_j_lem u p m e)

-- what comes behind a case is asked where the case does not hold
behind : (u : List ℕ) (p : ℕ) (m : Mode) (c : Case) (cs ds : List Case) → (holds c.when u p m ≡ false → first cs u p m ≡ first ds u p m)
    → first (c ∷ cs) u p m ≡ first (c ∷ ds) u p m
unfolding first
behind u p m c cs ds h = by (holds c.when u p m) h
  where
    by : (b : Bool) → (b ≡ false → first cs u p m ≡ first ds u p m) → cond b (gives c) (first cs u p m) ≡ cond b (gives c) (first ds u p m)
    by true h = refl
    by false h = h refl

-- cases 3 and 4 come behind the two Spanish ones
first_cases : (u : List ℕ) (p : ℕ) (m : Mode) (cs : List Case) → holds spanish u p m ≡ false
    → first (case (first_j & next "J") "J" "A" 1 ∷ case first_j "J" "A" 0 ∷ cs) u p m
    ≡ first (case (first_j_brief & next "J") "J" "A" 1 ∷ case first_j_brief "J" "A" 0 ∷ cs) u p m
unfolding first
first_cases u p m cs e = rw (first_doubled u p m e, first_j_lem u p m e) refl

pub jose_idle : Alike cases_j (asking 3 (first_j_brief & next "J") (asking 4 first_j_brief cases_j))
unfolding cases_j
jose_idle u p m = behind u p m _ _ _ (λ h. behind u p m _ _ _ (first_cases u p m _))
