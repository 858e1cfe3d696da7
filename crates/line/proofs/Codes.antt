-- A line's buffer with the lent part back in its place behind the tab, and what an accepted word's codes say of it.
use Prim.Native.Nat.{ℕ, ◌+◌, ◌-◌, ◌≤◌}
use mathlib.Core.List.{List, ◌∷◌, ◌++◌}
use mathlib.Core.Path.{◌≡◌, sym, ap, ◌∙◌}
use native.Mathlib.Omega.{arith}
use borrow.Rule.Slice.PartMut.{mid_of, put_mid, same_len_mid}
use lib.ListN.{length, take, drop, set, length-drop, length-set}
use lib.Seq.{take_at}
use Rattle.encoder.specs.Encode.{default_limit, filled}
use Rattle.line.specs.Line.{line_room}
use Rattle.line.proofs.Place.{rest_lent, rest_back}
use Rattle.line.proofs.Line.{primary, alternate, primary_short, alternate_short}

-- what is lent of a line, and the line with what came back
abbrev pub lent : List ℕ → List ℕ
lent line = mid_of 5 (length (set line 4 9) - 5) (set line 4 9)

abbrev pub mid : List ℕ → List ℕ → List ℕ
mid line back = put_mid 5 (length (set line 4 9) - 5) (set line 4 9) back

pub five : (line : List ℕ) → length line ≡ line_room → 4 + 1 ≤ length line
five line long = omega arith

pub room : (line : List ℕ) → length line ≡ line_room → default_limit ≤ length (lent line)
room line long = rw (rest_lent line 4 9 (five line long)) (simp length-drop (omega arith))

pub mid_long : (line back : List ℕ) → length line ≡ line_room → length back ≡ length (lent line) → length (mid line back) ≡ line_room
mid_long line back long same = same_len_mid 5 (length (set line 4 9) - 5) (set line 4 9) back same ∙ length-set line 4 9 ∙ long

pub record Codes (w line front back : List ℕ) (np na : ℕ) : Type 0 where
  pub primary_long : np ≡ length (primary w)
  pub alternate_long : na ≡ length (alternate w)
  pub primary_four : np ≤ 4
  pub alternate_four : na ≤ 4
  pub code : take np front ≡ primary w
  pub whole : mid line back ≡ take 4 line ++ 9 ∷ filled (alternate w) (drop 5 line)

-- what the encoder's answer says of an accepted word's codes
pub codes : (w line p front back : List ℕ) (np na : ℕ) → length line ≡ line_room
    → (np ≡ length (primary w)) × (na ≡ length (alternate w)) × (front ≡ filled (primary w) p) × (back ≡ filled (alternate w) (lent line))
    → Codes w line front back np na
codes w line p front back np na long k =
    record {
      primary_long = k.0;
      alternate_long = k.1;
      primary_four = omega (arith, k.0, primary_short w);
      alternate_four = omega (arith, k.1, alternate_short w);
      code = ap (λ (l : List ℕ). take np l) k.2 ∙ take_at (primary w) _ np (sym k.0);
      whole = rest_back line 4 9 (five line long) back
          ∙ ap (λ (l : List ℕ). take 4 line ++ 9 ∷ l) (k.3 ∙ ap (λ (l : List ℕ). filled (alternate w) l) (rest_lent line 4 9 (five line long)));
    }
