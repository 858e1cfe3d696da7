-- Where the editions agree: a word that does not begin with VAN or VON and a space has the same visits in both. One case asks for the
-- edition, the fourth of C.
use Prim.Native.Nat.{ℕ}
use mathlib.Core.Bool.{Bool, true, false, false≢true, cond, ◌&&◌, ◌||◌}
use mathlib.Core.List.{List, [], ◌∷◌, map}
use mathlib.Core.Path.{◌≡◌, refl, sym, ap, ap₂, ◌∙◌}
use native.Mathlib.Omega.{arith}
use lib.ListN.{get_or, drop}
use Rattle.byte.specs.Text.{bytes, upper}
use Rattle.windows.specs.Window.{sees}
use Rattle.byte.specs.Vowel.{among}
use Rattle.basics.proofs.Tests.{both}
use Rattle.windows.proofs.Facts.{window_other}
use Rattle.rules.specs.Cond.{Mode, mode, window, past, ◌&◌, ◌or◌, ahead, back, front, holds}
use Rattle.rules.specs.Case.{Case, gives, first}
use Rattle.rules.specs.Plain.{swallows, cases_vowel, cases_rest}
use Rattle.rules.specs.CasesC.{cases_c, CH, condition_ch0, condition_ch1, kh_before, van_or_von}
use Rattle.rules.specs.CasesDL.{cases_d, cases_h, cases_j, cases_l}
use Rattle.rules.specs.CasesG.{cases_g}
use Rattle.rules.specs.CasesMZ.{cases_m, cases_p, cases_r, cases_t, cases_w, cases_x, cases_z}
use Rattle.rules.specs.CasesS.{cases_s}
use Rattle.rules.specs.Dutch.{dutch}
use Rattle.rules.specs.Table.{Row, rows, cases_in, visit}
use Rattle.outcome.specs.declared.Visit.{Visit}
use Rattle.rules.proofs.Each.{every_row}
use Rattle.rules.proofs.Mode.{asks, asks_cases, Same, same_holds, same_first}

-- a text of three bytes is no window of four
three_no : (w : List ℕ) → sees (upper w) 0 4 (map bytes ("VAN" ∷ "VON" ∷ [])) ≡ false
unfolding sees
three_no w = simp (window_other w 0 4 (bytes "VAN") (λ e. omega arith), window_other w 0 4 (bytes "VON") (λ e. omega arith))

module _ (w : List ℕ) (no : dutch w ≡ false) (p : ℕ) (b : Bool) where
  abbrev u : List ℕ
  u = upper w

  -- edition 1 and edition 2
  abbrev m : Mode
  m = mode b false

  abbrev n : Mode
  n = mode b true

  apart : Same true false m n
  apart = record { mark = λ e. refl; second = λ e. absurd (false≢true e) }

  -- in neither edition does the word begin as the test asks
  van_no : (second : Bool) → holds van_or_von u p (mode b second) ≡ false
  unfolding holds
  van_no true = simp no
  van_no false = simp (three_no w)

  van_same : holds van_or_von u p m ≡ holds van_or_von u p n
  van_same = van_no false ∙ sym (van_no true)

  ch1_same : holds condition_ch1 u p m ≡ holds condition_ch1 u p n
  unfolding holds
  ch1_same =
      ap (λ (x : Bool).
      (((x || holds (window (front 0) 3 ("SCH" ∷ [])) u p m) || holds (past 1 & window (back 2) 6 ("ORCHES" ∷ "ARCHIT" ∷ "ORCHID" ∷ [])) u p m)
      || holds (past 1 & window (ahead 2) 1 ("T" ∷ "S" ∷ [])) u p m) || holds kh_before u p m) van_same

  fourth_same : holds (CH & (condition_ch0 or condition_ch1)) u p m ≡ holds (CH & (condition_ch0 or condition_ch1)) u p n
  unfolding holds
  fourth_same = ap (λ (x : Bool). holds CH u p m && (holds condition_ch0 u p m || x)) ch1_same

  -- case by case
  then_same : (c : Case) (cs : List Case) → holds c.when u p m ≡ holds c.when u p n → first cs u p m ≡ first cs u p n → first (c ∷ cs) u p m ≡ first (c ∷ cs) u p n
  unfolding first
  then_same c cs h r = ap₂ (λ (t : Bool) (v : Visit). cond t (gives c) v) h r

  unasked : (c : Case) (cs : List Case) → asks true false c.when ≡ true → first cs u p m ≡ first cs u p n → first (c ∷ cs) u p m ≡ first (c ∷ cs) u p n
  unasked c cs f r = then_same c cs (same_holds true false u p m n apart c.when f) r

  none_ask : (cs : List Case) → asks_cases true false cs ≡ true → first cs u p m ≡ first cs u p n
  none_ask cs f = same_first true false u p m n apart cs f

  c_same : first cases_c u p m ≡ first cases_c u p n
  unfolding cases_c
  c_same = unasked _ _ refl (unasked _ _ refl (unasked _ _ refl (then_same _ _ fourth_same (none_ask _ refl))))

  -- letter by letter
  abbrev AllSame : List Row → Type 0
  AllSame [] = first cases_rest u p m ≡ first cases_rest u p n
  AllSame (r ∷ rs) = (first r.cases u p m ≡ first r.cases u p n) × AllSame rs

  letter_same : (rs : List Row) → AllSame rs → (x : ℕ) → first (cases_in rs x) u p m ≡ first (cases_in rs x) u p n
  unfolding cases_in
  letter_same [] a x = a
  letter_same (r ∷ rs) a x = by (among (bytes r.keys) x) (letter_same rs a.1 x)
    where
      by : (t : Bool) → first (cases_in rs x) u p m ≡ first (cases_in rs x) u p n → first (cond t r.cases (cases_in rs x)) u p m ≡ first (cond t r.cases (cases_in rs x)) u p n
      by true i = a.0
      by false i = i

  tested : (rs : List Row) → every_row (asks_cases true false) rs ≡ true → AllSame rs
  tested [] e = none_ask cases_rest e
  tested (r ∷ rs) e =
      let h = both (asks_cases true false r.cases) (every_row (asks_cases true false) rs) e in (none_ask r.cases h.0, tested rs h.1)

  -- C is the third
  all_same : AllSame rows
  unfolding rows swallows cases_d cases_g cases_h cases_j cases_l cases_m cases_p cases_r cases_s cases_t cases_w cases_x cases_z cases_vowel cases_rest
  all_same = (none_ask _ refl, (none_ask _ refl, (c_same, tested (drop 3 rows) refl)))

  pub visit_agrees : visit u p m ≡ visit u p n
  unfolding visit
  visit_agrees = letter_same rows all_same (get_or u p 0)
