-- Bytes put one behind the other, and how many a number and a text take.
use Prim.Native.Nat.{ℕ, zero, suc, ◌+◌, ◌/◌, ◌%◌, ◌^◌, ◌≤◌, ◌<◌}
use mathlib.Core.Path.{◌≡◌, refl, sym, ap, ◌∙◌}
use mathlib.Core.Bool.{Bool, true, false, cond}
use mathlib.Core.List.{List, [], ◌∷◌, ◌++◌}
use native.Mathlib.Omega.{arith}
use lib.Dec.{ltb}
use lib.ListN.{length, length-append}
use lib.Seq.{sets, length-sets}
use Rattle.number.specs.Septets.{groups, writes, leaves}
use Rattle.std.specs.Prelude.{Result, Ok}
use Rattle.terms.specs.declared.Fault.{Fault}
use Rattle.number.proofs.Laws.{room}
use Rattle.fields.specs.Field.{number, text}
use Rattle.fields.specs.Put.{Put}
use Rattle.basics.proofs.Sets.{sets_append}

pub put_then : {out : List ℕ} {at : ℕ} {x : List ℕ} {r : ℕ} {mid y : List ℕ} {r' : ℕ} {out' : List ℕ} → Put out at x r mid → Put mid r y r' out' → Put out at (x ++ y) r' out'
put_then {out} {at} {x} {r} {mid} {y} p q = record {
  next = omega (arith, p.next, q.next, length-append x y);
  leaves = q.leaves ∙ (λ i. sets (p.leaves i) (p.next i) y) ∙ sets_append x out y at;
}

-- how many bytes are there after a write
pub put_length : {out : List ℕ} {at : ℕ} {x : List ℕ} {r : ℕ} {mid : List ℕ} → Put out at x r mid → length mid ≡ length out
put_length {out} {at} {x} p = ap length p.leaves ∙ length-sets out at x

pub wide : (x w : ℕ) → w ≡ length (groups 4 x) → w ≡ length (number x)
unfolding number
wide x w e = e

groups_short : (k x : ℕ) → length (groups k x) ≤ k
groups_short zero x = omega arith
groups_short (suc k) x = go (ltb x 128) (groups_short k (x / 128))
  where
    go : (t : Bool) → length (groups k (x / 128)) ≤ k → length (cond t (x ∷ []) ((x % 128 + 128) ∷ groups k (x / 128))) ≤ suc k
    go true h = omega arith
    go false h = omega arith

pub four : (x : ℕ) → length (number x) ≤ 4
unfolding number
four x = groups_short 4 x

pub number_goes : (out : List ℕ) (at x : ℕ) → x < 2 ^ 28 → at + length (number x) ≤ length out → writes out at x ≡ Ok (at + length (number x))
unfolding number
number_goes out at x h l = (room out at x h l).0

pub number_put : (out : List ℕ) (at x r : ℕ) (out' : List ℕ) → x < 2 ^ 28 → at + length (number x) ≤ length out → writes out at x ≡ Ok r → out' ≡ leaves out at x → Put out at (number x) r out'
unfolding number
number_put out at x r out' h l d e =
    let k : ◌≡◌ {A = Result ℕ Fault} (Ok r) (Ok (at + length (groups 4 x))) = sym d ∙ (room out at x h l).0 in
    record { next = cc; leaves = e ∙ (room out at x h l).1 }

pub text_length : (t : List ℕ) → length (text t) ≡ length (number (length t)) + length t
unfolding text
text_length t = length-append (number (length t)) t

pub text_put : (out : List ℕ) (at : ℕ) (t : List ℕ) (r : ℕ) (mid out' : List ℕ) → Put out at (number (length t)) r mid → out' ≡ sets mid r t → Put out at (text t) (r + length t) out'
unfolding text
text_put out at t r mid out' p e = put_then p (record { next = refl; leaves = e })

pub text_takes : (t : List ℕ) (w : ℕ) → w ≡ length (groups 4 (length t)) → w + length t ≡ length (text t)
text_takes t w e = omega (arith, text_length t, wide (length t) w e)
