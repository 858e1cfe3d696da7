-- Which faults a reading can give.
use Prim.Native.Nat.{ℕ, zero, suc, ◌-◌}
use mathlib.Core.Path.{◌≡◌, refl, sym, ◌∙◌}
use mathlib.Core.Bool.{Bool, true, false, cond}
use mathlib.Core.List.{List, [], ◌∷◌}
use native.Mathlib.Omega.{arith}
use lib.Dec.{ltb}
use lib.ListN.{length, take, drop}
use Rattle.terms.specs.declared.Fault.{Fault}
use Rattle.terms.specs.declared.Fault.TheVariants.{BadNumber, BookEnds}
use Rattle.std.specs.Prelude.{Option, Some, None, Result, Ok, Err}
use Rattle.number.specs.declared.Number.{Number}
use Rattle.number.specs.Septets.{reads}
use Rattle.number.proofs.Laws.{reads_only}
use Rattle.fields.specs.Got.{Got, good, bad, beside, before, read_both, mapped, grown, further, read_all}
use Rattle.fields.specs.Field.{unless, judged, read_number, first, fault_in, read_bytes, moved, bytes_behind, read_text}
use Rattle.fields.proofs.Law.{same_fault}

-- each fault that the reading gives is one of P
abbrev pub Only : {A : Type 0} → (Fault → Type 0) → (List ℕ → Got A) → Type 0
Only P read = (l : List ℕ) (f : Fault) → read l ≡ bad f → P f

no_fault : {A B : Type 0} {a : A} {n : ℕ} {f : Fault} → good a n ≡ bad f → B
no_fault e = let z : ◌≡◌ {A = ℕ} 0 1 = cc in absurd (omega arith)

module _ (P : Fault → Type 0) where
  -- the faults of a judge
  abbrev pub Judged : (ℕ → Option Fault) → Type 0
  Judged judge = (v : ℕ) (f : Fault) → judge v ≡ Some f → P f

  told : {A : Type 0} {g f : Fault} → P g → ◌≡◌ {A = Got A} (bad g) (bad f) → P f
  told p e = rw (sym (same_fault e)) p

  pub only_number : P BadNumber → P BookEnds → (judge : ℕ → Option Fault) → Judged judge → Only P (read_number judge)
  unfolding read_number
  only_number five six judge j l f e = go (reads 4 true l) refl e
    where
      go : (r : Result Number Fault) → reads 4 true l ≡ r → judged judge r ≡ bad f → P f
      go (Err g) d e = told (reads_only P five six 4 true l g d) e
      go (Ok r) d e = next (judge r.value) refl e
        where
          next : (g : Option Fault) → judge r.value ≡ g → unless g (good r.value r.used) ≡ bad f → P f
          next None d e = no_fault e
          next (Some g) d e = told (j r.value g d) e

  only_run : (judge : ℕ → Option Fault) → Judged judge → (l : List ℕ) (f : Fault) → fault_in judge l ≡ Some f → P f
  only_run judge j [] f e = let z : ◌≡◌ {A = ℕ} 0 1 = cc in absurd (omega arith)
  only_run judge j (b ∷ l) f e = go (judge b) refl e (only_run judge j l f)
    where
      go : (g : Option Fault) → judge b ≡ g → first g (fault_in judge l) ≡ Some f → (fault_in judge l ≡ Some f → P f) → P f
      go None d e ih = ih e
      go (Some g) d e ih = j b f (d ∙ e)

  pub only_bytes : P BookEnds → (judge : ℕ → Option Fault) → Judged judge → (n : ℕ) → Only P (read_bytes judge n)
  unfolding read_bytes
  only_bytes six judge j n l f e = go (fault_in judge (take n l)) refl (ltb (length l) n) e
    where
      go : (g : Option Fault) → fault_in judge (take n l) ≡ g → (s : Bool) → unless g (cond s (bad BookEnds) (good (take n l) n)) ≡ bad f → P f
      go None d true e = told six e
      go None d false e = no_fault e
      go (Some g) d s e = told (only_run judge j (take n l) g d) e

  pub only_text : P BadNumber → P BookEnds → (jn jb : ℕ → Option Fault) → Judged jn → Judged jb → Only P (read_text jn jb)
  unfolding read_text
  only_text five six jn jb j k l f e = go (read_number jn l) refl e
    where
      next : (i : ℕ) (y : Got (List ℕ)) → ((g : Fault) → y ≡ bad g → P g) → moved i y ≡ bad f → P f
      next i (bad g) h e = told (h g refl) e
      next i (good t n) h e = no_fault e

      go : (x : Got ℕ) → read_number jn l ≡ x → bytes_behind jb l x ≡ bad f → P f
      go (bad g) d e = told (only_number five six jn j l g d) e
      go (good n i) d e = next i (read_bytes jb n (drop i l)) (only_bytes six jb k n (drop i l)) e

  module _ {A B : Type 0} where
    pub only_both : (r : List ℕ → Got A) (s : List ℕ → Got B) → Only P r → Only P s → Only P (read_both r s)
    only_both r s p q l f e = go (r l) refl e
      where
        next : (a : A) (n : ℕ) (y : Got B) → ((g : Fault) → y ≡ bad g → P g) → beside a n y ≡ bad f → P f
        next a n (bad g) h e = told (h g refl) e
        next a n (good b m) h e = no_fault e

        go : (x : Got A) → r l ≡ x → before x (λ n. s (drop n l)) ≡ bad f → P f
        go (bad g) d e = told (p l g d) e
        go (good a n) d e = next a n (s (drop n l)) (q (drop n l)) e

    pub only_mapped : (to : A → B) (r : List ℕ → Got A) → Only P r → Only P (λ l. mapped to (r l))
    only_mapped to r p l f e = go (r l) refl e
      where
        go : (x : Got A) → r l ≡ x → mapped to x ≡ bad f → P f
        go (bad g) d e = told (p l g d) e
        go (good a n) d e = no_fault e

  module _ {A : Type 0} (read : ℕ → List ℕ → Got A) (left : A → ℕ) (only : (state : ℕ) → Only P (read state)) where
    pub only_all : (state skip : ℕ) → Only P (read_all read left state skip)
    only_all state zero [] f e = no_fault e
    only_all state (suc skip) [] f e = no_fault e
    only_all state (suc skip) (b ∷ l) f e = only_all state skip l f e
    only_all state zero (b ∷ l) f e = go (λ st k. only_all st k l) (read state (b ∷ l)) refl e
      where
        next : (a : A) (n : ℕ) (y : Got (List A)) → ((g : Fault) → y ≡ bad g → P g) → grown a n y ≡ bad f → P f
        next a n (bad g) h e = told (h g refl) e
        next a n (good vs m) h e = no_fault e

        go : ((st k : ℕ) (g : Fault) → read_all read left st k l ≡ bad g → P g) → (x : Got A) → read state (b ∷ l) ≡ x → further x (λ a n. read_all read left (left a) (n - 1) l) ≡ bad f → P f
        go ih (bad g) d e = told (only state (b ∷ l) g d) e
        go ih (good a n) d e = next a n (read_all read left (left a) (n - 1) l) (ih (left a) (n - 1)) e
