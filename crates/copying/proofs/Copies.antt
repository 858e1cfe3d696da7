-- A copying loop, turn by turn, and what the library's copies leave, as stores one behind the other.
use Prim.Native.Nat.{suc, ◌<◌}
use mathlib.Core.Path.{sym, ap, ◌∙◌}
use mathlib.Core.List.{◌∷◌}
use Rattle.std.proofs.Common.{◌≡◌, ℕ, ◌+◌, ◌-◌, ◌≤◌, List, length, take, drop, append_assoc, arith}
use Rattle.std.proofs.lemmas.List.Edits.{sets, sets-eq}
use Rattle.std.specs.List.{copy_within}
use borrow.Rule.Slice.PartMut.{put_mid}
use lib.Seq.{drop-drop, length-take-le}
use lib.ListN.{set, length-drop}

-- one byte more of a copy
pub copied : (out src : List ℕ) (at i : ℕ) (all : List ℕ) (v : ℕ) → i < length src → drop i src ≡ v ∷ drop (i + 1) src → sets out (at + i) (drop i src) ≡ all
    → sets (set out (at + i) v) (at + (i + 1)) (drop (i + 1) src) ≡ all
copied out src at i all v h d e =
    let k : at + (i + 1) ≡ suc (at + i) = omega arith in
    ap (λ (n : ℕ). sets (set out (at + i) v) n (drop (i + 1) src)) k ∙ ap (sets out (at + i)) (sym d) ∙ e

-- a part that was written whole
pub put_sets : (out src : List ℕ) (at : ℕ) → at + length src ≤ length out → put_mid at (at + length src - at) out src ≡ sets out at src
put_sets out src at h =
    let e : at + length src - at ≡ length src = omega arith in
    simp (e, drop-drop, sets-eq src out at h, append_assoc)

-- a part copied within
pub within_sets : (out : List ℕ) (to at n : ℕ) → to ≤ at → at + n ≤ length out → copy_within out at (at + n) to ≡ sets out to (take n (drop at out))
within_sets out to at n h k =
    let e : at + n - at ≡ n = omega arith in
    let l : length (take n (drop at out)) ≡ n = length-take-le n (drop at out) (omega (arith, length-drop at out)) in
    rw (e, sets-eq (take n (drop at out)) out to (omega arith), l)
