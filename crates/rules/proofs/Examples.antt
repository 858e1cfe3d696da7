-- Single visits, computed from the table and compared with what the unchanged Rust's visits add and pass over; and the number of
-- cases, letter by letter.
use Prim.Native.Nat.{ℕ, ◌+◌}
use Prim.Native.String.{String}
use mathlib.Core.Bool.{Bool, true, false}
use mathlib.Core.List.{List, [], ◌∷◌, map}
use mathlib.Core.Path.{◌≡◌, refl}
use lib.ListN.{length}
use Rattle.byte.specs.Text.{bytes, up, upper}
use Rattle.basics.specs.Same.{same}
use Rattle.windows.specs.Window.{is_at, sees}
use Rattle.spots.specs.Spot.{byte_at, vowel_at, ends_after, is_long}
use Rattle.byte.specs.Vowel.{vowel}
use Rattle.rules.specs.Cond.{marked, edited, holds}
use Rattle.rules.specs.Case.{adds, first}
use Rattle.rules.specs.Plain.{swallows, cases_vowel, cases_rest}
use Rattle.rules.specs.CasesC.{cases_c}
use Rattle.rules.specs.CasesDL.{cases_d, cases_h, cases_j, cases_l}
use Rattle.rules.specs.CasesG.{cases_g}
use Rattle.rules.specs.CasesMZ.{cases_m, cases_p, cases_r, cases_t, cases_w, cases_x, cases_z}
use Rattle.rules.specs.CasesS.{cases_s}
use Rattle.rules.specs.Table.{Row, rows, cases_in, visit}
use Rattle.outcome.specs.declared.Visit.{Visit}

-- a word, a place in it, the word's Slavo-Germanic mark, and what the visit there adds to each code and passes over
pub record Seen : Type 0 where
  pub word : String
  pub place : ℕ
  pub mark : Bool
  pub primary : String
  pub alternate : String
  pub over : ℕ

abbrev seen : String → ℕ → Bool → String → String → ℕ → Seen
seen w p m a b n = record { word = w; place = p; mark = m; primary = a; alternate = b; over = n }

unfoldable pub examples : List Seen
examples =
    seen "Abby" 0 false "A" "A" 0
    ∷ seen "Abby" 1 false "P" "P" 1
    ∷ seen "Chianti" 0 false "K" "K" 1
    ∷ seen "Michael" 2 false "K" "X" 1
    ∷ seen "Chorus" 0 false "K" "K" 1
    ∷ seen "Van Chi" 4 false "X" "K" 1
    ∷ seen "bacher" 2 false "K" "K" 1
    ∷ seen "Czerny" 0 true "S" "X" 1
    ∷ seen "focaccia" 4 false "X" "X" 2
    ∷ seen "accident" 1 false "KS" "KS" 2
    ∷ seen "McClelland" 1 false "K" "K" 1
    ∷ seen "Mac Gregor" 2 false "K" "K" 2
    ∷ seen "edge" 1 false "J" "J" 2
    ∷ seen "edgar" 1 false "TK" "TK" 1
    ∷ seen "Jeff" 2 false "F" "F" 1
    ∷ seen "Ghislane" 0 false "J" "J" 1
    ∷ seen "laugh" 3 false "F" "F" 1
    ∷ seen "hugh" 2 false "" "" 1
    ∷ seen "agnes" 1 false "KN" "N" 1
    ∷ seen "signal" 2 false "N" "KN" 1
    ∷ seen "danger" 3 false "J" "K" 1
    ∷ seen "Germanic" 0 false "K" "J" 1
    ∷ seen "Rogier" 2 false "J" "J" 1
    ∷ seen "aha" 1 false "H" "H" 1
    ∷ seen "Jose" 0 false "H" "H" 0
    ∷ seen "San Jacinto" 4 false "H" "H" 0
    ∷ seen "Josef" 0 false "J" "H" 0
    ∷ seen "jumped" 0 false "J" "A" 0
    ∷ seen "Bajador" 2 false "J" "H" 0
    ∷ seen "Saj" 2 false "J" " " 0
    ∷ seen "hajj" 2 false "J" "J" 1
    ∷ seen "Mikado" 2 true "K" "K" 0
    ∷ seen "Villa" 2 false "L" "" 1
    ∷ seen "Gallegos" 2 false "L" "" 1
    ∷ seen "dumb" 2 false "M" "M" 1
    ∷ seen "plumber" 3 false "M" "M" 1
    ∷ seen "Hannah" 2 false "N" "N" 1
    ∷ seen "Phil" 0 false "F" "F" 1
    ∷ seen "Campbell" 3 false "P" "P" 1
    ∷ seen "Iraq" 3 false "K" "K" 0
    ∷ seen "Rogier" 5 false "" "R" 0
    ∷ seen "Harry" 2 false "R" "R" 1
    ∷ seen "island" 1 false "" "" 0
    ∷ seen "sugar" 0 false "X" "S" 0
    ∷ seen "Asian" 1 false "S" "X" 2
    ∷ seen "szabo" 0 false "S" "X" 1
    ∷ seen "schenker" 0 true "X" "SK" 2
    ∷ seen "schlesinger" 0 false "X" "S" 2
    ∷ seen "SC" 0 false "SK" "SK" 2
    ∷ seen "artois" 5 false "" "S" 0
    ∷ seen "nation" 2 false "X" "X" 2
    ∷ seen "Thomas" 0 false "T" "T" 1
    ∷ seen "Matthew" 2 true "0" "T" 1
    ∷ seen "Navvy" 2 false "F" "F" 1
    ∷ seen "Wasserman" 0 true "A" "F" 0
    ∷ seen "Arnow" 4 true "" "F" 0
    ∷ seen "filipowicz" 6 true "TS" "FX" 3
    ∷ seen "Xavier" 0 false "S" "S" 0
    ∷ seen "breaux" 5 false "" "" 0
    ∷ seen "Maxx" 2 false "KS" "KS" 1
    ∷ seen "Zhao" 0 false "J" "J" 1
    ∷ seen "pizza" 2 false "S" "TS" 1
    ∷ seen "Kuzmin" 2 true "S" "TS" 0
    ∷ seen "Fritz" 4 false "S" "S" 0
    ∷ seen "a-b" 1 false "" "" 0
    ∷ []

unfoldable pub defined : Seen → Visit
defined s = visit (upper (bytes s.word)) s.place (marked s.mark)

unfoldable pub answered : Seen → Visit
answered s = adds s.primary s.alternate s.over

pub as_the_rust : map defined examples ≡ map answered examples
unfolding defined answered examples visit first holds rows cases_in swallows cases_c cases_d cases_g cases_h cases_j cases_l cases_m cases_p cases_r cases_s cases_t cases_w cases_x cases_z cases_vowel cases_rest up upper is_at sees byte_at vowel vowel_at ends_after is_long same
as_the_rust = refl

-- edition 2: Van and Von before CH, and what is not so before it
unfoldable pub examples2 : List Seen
examples2 =
    seen "Van Chi" 4 false "K" "K" 1
    ∷ seen "von chi" 4 false "K" "K" 1
    ∷ seen "VanChi" 3 false "X" "K" 1
    ∷ seen "Vin Chi" 4 false "X" "K" 1
    ∷ seen "Ivan Chi" 5 false "X" "K" 1
    ∷ []

unfoldable pub defined2 : Seen → Visit
defined2 s = visit (upper (bytes s.word)) s.place (edited true)

pub as_edition_2 : map defined2 examples2 ≡ map answered examples2
unfolding defined2 answered examples2 visit first holds rows cases_in swallows cases_c cases_vowel cases_rest up upper is_at sees byte_at vowel vowel_at ends_after is_long same
as_edition_2 = refl

-- ---- the cases of the rest, of the vowels, of B, C, D, .. Z
unfoldable pub sum : List ℕ → ℕ
sum [] = 0
sum (n ∷ ns) = n + sum ns

unfoldable pub counts : List ℕ
counts = length cases_rest ∷ map (λ (r : Row). length r.cases) rows

pub counted : counts ≡ 1 ∷ 2 ∷ 2 ∷ 18 ∷ 4 ∷ 2 ∷ 17 ∷ 2 ∷ 12 ∷ 2 ∷ 3 ∷ 2 ∷ 2 ∷ 3 ∷ 2 ∷ 4 ∷ 18 ∷ 5 ∷ 2 ∷ 6 ∷ 5 ∷ 5 ∷ []
unfolding counts rows swallows cases_c cases_d cases_g cases_h cases_j cases_l cases_m cases_p cases_r cases_s cases_t cases_w cases_x cases_z cases_vowel cases_rest
counted = refl

pub counted_all : sum counts ≡ 119
unfolding sum counts rows swallows cases_c cases_d cases_g cases_h cases_j cases_l cases_m cases_p cases_r cases_s cases_t cases_w cases_x cases_z cases_vowel cases_rest
counted_all = refl
