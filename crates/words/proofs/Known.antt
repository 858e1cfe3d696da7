-- Document 01's names with known keys: one statement for each edition over the table of the definition's answers. Below it, the counts
-- that document 01's list of errors names, and the room that KXZ takes, of edition 1.
use Prim.Native.Nat.{ℕ}
use Prim.Native.String.{String}
use mathlib.Core.Path.{◌≡◌, refl}
use mathlib.Core.List.{List, [], ◌∷◌, map}
use Rattle.byte.specs.Text.{bytes, up, upper}
use Rattle.basics.specs.Same.{same}
use Rattle.windows.specs.Window.{is_at, sees}
use Rattle.spots.specs.Spot.{byte_at, vowel_at, ends_after, is_long}
use Rattle.byte.specs.Vowel.{vowel}
use Rattle.rules.specs.Cond.{holds}
use Rattle.rules.specs.Case.{first}
use Rattle.rules.specs.Plain.{swallows, cases_vowel, cases_rest}
use Rattle.rules.specs.CasesC.{cases_c}
use Rattle.rules.specs.CasesDL.{cases_d, cases_h, cases_j, cases_l}
use Rattle.rules.specs.CasesG.{cases_g}
use Rattle.rules.specs.CasesMZ.{cases_m, cases_p, cases_r, cases_t, cases_w, cases_x, cases_z}
use Rattle.rules.specs.CasesS.{cases_s}
use Rattle.rules.specs.Table.{rows, cases_in, visit}
use Rattle.word.specs.Mark.{begins_one, has_one, slavo_germanic}
use Rattle.word.specs.Start.{start_of}
use Rattle.walk.specs.Word.{visits_of}
use Rattle.terms.specs.declared.Edition.{Edition}
use Rattle.terms.specs.declared.Edition.TheVariants.{E1, E2}
use Rattle.terms.specs.Limits.{Limit}
use Rattle.std.specs.Prelude.{Some, None, Ok, Err}
use Rattle.answers.specs.declared.Refusal.TheVariants.{PrimaryShort, AlternateShort}
use Rattle.trimming.specs.Trim.{trimmed}
use Rattle.encoder.specs.Encode.{Answer, primary_of, alternate_of, visits_under, answer_of}

pub record Known : Type 0 where
  pub word : String
  pub limit : Limit
  pub primary : String
  pub alternate : String
  pub visits : ℕ

abbrev known : String → Limit → String → String → ℕ → Known
known w l p a n = record { word = w; limit = l; primary = p; alternate = a; visits = n }

-- both codes and the visits
pub record Key : Type 0 where
  pub primary : List ℕ
  pub alternate : List ℕ
  pub visits : ℕ

unfoldable pub defined : Edition → Known → Key
defined ed k =
    record {
      primary = primary_of ed k.limit (trimmed (bytes k.word));
      alternate = alternate_of ed k.limit (trimmed (bytes k.word));
      visits = visits_under ed k.limit (trimmed (bytes k.word));
    }

unfoldable pub given : Known → Key
given k = record { primary = bytes k.primary; alternate = bytes k.alternate; visits = k.visits }

unfoldable pub others : List Known
others =
    known "" None "" "" 0
    ∷ known "jumped" None "JMPT" "AMPT" 6
    ∷ known "jumped" (Some 1) "J" "A" 1
    ∷ known "jumped" (Some 0) "" "" 0
    ∷ known "GN" None "N" "N" 1
    ∷ known "XX" None "SKS" "SKS" 2
    ∷ known "KXZ" None "KKSS" "KKSTS" 3
    ∷ known "KXZ" (Some 2) "KK" "KK" 2
    ∷ known "Mac Gregor" None "MKRKR" "MKRKR" 8
    ∷ known "Mac Gregor" (Some 4) "MKRK" "MKRK" 6
    ∷ known "Rogier" (Some 3) "RJ" "RJR" 5
    ∷ known "Villa" None "FL" "F" 4
    ∷ known "artois" None "ART" "ARTS" 6
    ∷ []

-- document 01's table names edition 1
unfoldable pub names : List Known
names = known "Van Chi" None "FNX" "FNK" 6 ∷ others

-- of its names Van Chi alone has another key under edition 2
unfoldable pub names2 : List Known
names2 = known "Van Chi" None "FNK" "FNK" 6 ∷ others

pub names_known : map (defined E1) names ≡ map given names
unfolding defined given names others primary_of alternate_of trimmed visits_of start_of begins_one has_one slavo_germanic visit first holds rows cases_in swallows cases_c cases_d cases_g cases_h cases_j cases_l cases_m cases_p cases_r cases_s cases_t cases_w cases_x cases_z cases_vowel cases_rest up upper is_at sees byte_at vowel vowel_at ends_after is_long same
names_known = refl

pub names2_known : map (defined E2) names2 ≡ map given names2
unfolding defined given names2 others primary_of alternate_of trimmed visits_of start_of begins_one has_one slavo_germanic visit first holds rows cases_in swallows cases_c cases_d cases_g cases_h cases_j cases_l cases_m cases_p cases_r cases_s cases_t cases_w cases_x cases_z cases_vowel cases_rest up upper is_at sees byte_at vowel vowel_at ends_after is_long same
names2_known = refl

-- a full primary code alone does not end the walk; both codes full end it; the last J's space counts; blanks go and 28 stays
unfoldable pub edges : List Known
edges =
    known "Villa" (Some 2) "FL" "F" 4
    ∷ known "artois" (Some 3) "ART" "ART" 3
    ∷ known "Rogier" (Some 2) "RJ" "RJ" 3
    ∷ known "Saj" (Some 4) "SJ" "S " 3
    ∷ known "\u{b} jumped\r\n" (Some 4) "JMPT" "AMPT" 6
    ∷ known "\u{1c}jumped" (Some 4) "JMPT" "JMPT" 7
    ∷ []

pub edges_known : map (defined E1) edges ≡ map given edges
unfolding defined given edges primary_of alternate_of trimmed visits_of start_of begins_one has_one slavo_germanic visit first holds rows cases_in swallows cases_c cases_d cases_g cases_h cases_j cases_l cases_m cases_p cases_r cases_s cases_t cases_w cases_x cases_z cases_vowel cases_rest up upper is_at sees byte_at vowel vowel_at ends_after is_long same
edges_known = refl

-- KXZ with no limit takes buffers of 5 and refuses 4, also the primary one, though its code has 4
unfoldable pub kxz : ℕ → ℕ → Answer
kxz m n = answer_of E1 None (bytes "KXZ") m n

pub kxz_room : (kxz 5 5 ∷ kxz 4 5 ∷ kxz 5 4 ∷ []) ≡ (Ok (record { primary = 4; alternate = 5; visits = 3 }) ∷ Err PrimaryShort ∷ Err AlternateShort ∷ [])
unfolding kxz primary_of alternate_of trimmed visits_of start_of begins_one has_one slavo_germanic visit first holds rows cases_in swallows cases_c cases_d cases_g cases_h cases_j cases_l cases_m cases_p cases_r cases_s cases_t cases_w cases_x cases_z cases_vowel cases_rest up upper is_at sees byte_at vowel vowel_at ends_after is_long same
kxz_room = refl
